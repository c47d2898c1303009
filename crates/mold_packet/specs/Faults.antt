-- Why bytes are no packet, and the codes of the faults: this project's own.
use Rattle.std.specs.Prelude.{◌≡◌, ℕ, ◌+◌, ◌^◌, ◌<◌, ◌≤◌, ◌==◌, if◌then◌else◌, List, length, drop}
use Rattle.mold_packet.specs.declared.fault.PacketFault.{PacketFault}
use Rattle.mold_packet.specs.declared.fault.PacketFault.TheVariants.{ShortHeader, TruncatedBlock, ZeroSequence, SequenceOverflow, BufferTooSmall, BadRequestLength}
use Rattle.mold_packet.specs.Block.{HasBlocks, CutShort}
use Rattle.mold_packet.specs.Header.{number_at, count_at}

-- how many blocks follow the header: none in a heartbeat or an end of session
abbrev pub blocks_wanted : ℕ → ℕ
blocks_wanted count = if count == 65535 then 0 else count

-- the header and all its blocks are there
pub record IsWhole (bytes : List ℕ) : Type 0 where
  pub header : 20 ≤ length bytes
  pub messages : List (List ℕ)
  pub rest : List ℕ
  pub blocks : HasBlocks (blocks_wanted (count_at bytes)) (drop 20 bytes) messages rest

-- the fault is the first that fits, in this order: the header is cut, a block is cut, the number
-- is 0, the last message's number is past 2^64 - 1. Reading a packet has no other
abbrev pub HasFault : List ℕ → PacketFault → Type 0
HasFault bytes ShortHeader = length bytes < 20
HasFault bytes TruncatedBlock =
    (20 ≤ length bytes) × CutShort (blocks_wanted (count_at bytes)) (drop 20 bytes)
HasFault bytes ZeroSequence = IsWhole bytes × (number_at bytes ≡ 0)
HasFault bytes SequenceOverflow =
    IsWhole bytes × (1 ≤ number_at bytes) × (1 ≤ blocks_wanted (count_at bytes))
    × (2 ^ 64 < number_at bytes + blocks_wanted (count_at bytes))
HasFault bytes _ = ⊥

-- the code by which logs name a fault
abbrev pub code_of : PacketFault → ℕ
code_of ShortHeader = 1
code_of TruncatedBlock = 2
code_of ZeroSequence = 3
code_of SequenceOverflow = 4
code_of BufferTooSmall = 5
code_of BadRequestLength = 6
