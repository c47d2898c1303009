-- Which line a datagram goes to.
use Rattle.std.specs.Prelude.{◌≡◌, ℕ, ◌<◌, ◌⊎◌, List, Some, replicate, slice_get}
use Rattle.packet_capture.specs.declared.datagram.Address.{Address}
use Rattle.packet_capture.specs.declared.datagram.Address.TheVariants.{V4, V6}
use Rattle.packet_capture.specs.Datagrams.{DatagramContent}
use Rattle.run_settings.specs.declared.captured_line.CapturedLine.{CapturedLine}

-- an address of zeros
abbrev pub IsZeros : Address → Type 0
IsZeros address = (address ≡ V4 (replicate 4 0)) ⊎ (address ≡ V6 (replicate 16 0))

-- the line takes what goes to its port, at its address or, where that is of zeros, at any
pub record Takes (line : CapturedLine) (d : DatagramContent) : Type 0 where
  pub port : line.port ≡ d.port
  pub address : (line.address ≡ d.address) ⊎ IsZeros line.address

-- the datagram goes to this line: the first of the list that takes it
pub record GoesTo (lines : List CapturedLine) (d : DatagramContent) (line : CapturedLine)
    : Type 0 where
  pub place : ℕ
  pub is : Some line ≡ slice_get lines place
  pub takes : Takes line d
  pub first : (earlier : ℕ) (other : CapturedLine) → earlier < place
      → Some other ≡ slice_get lines earlier → Takes other d → ⊥

-- no line of the list takes it
abbrev pub GoesToNone : List CapturedLine → DatagramContent → Type 0
GoesToNone lines d =
    (place : ℕ) (line : CapturedLine) → Some line ≡ slice_get lines place → Takes line d → ⊥
