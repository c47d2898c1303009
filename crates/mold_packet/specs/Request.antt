-- Asking for messages again: MoldUDP64 1.00, "Request Packet".
use Rattle.std.specs.Prelude.{◌≡◌, ℕ, ◌^◌, ◌<◌, List, length}
use Rattle.mold_packet.specs.declared.fault.PacketFault.{PacketFault}
use Rattle.mold_packet.specs.declared.fault.PacketFault.TheVariants.{ShortHeader, TruncatedBlock, ZeroSequence, SequenceOverflow, BufferTooSmall, BadRequestLength}
use Rattle.mold_packet.specs.declared.request.Request.{Request}
use Rattle.mold_packet.specs.Header.{header, number_at}

-- the bytes are a header with the request's fields, and nothing else
pub record SpellsRequest (bytes : List ℕ) (request : Request) : Type 0 where
  pub session : length request.session ≡ 10
  pub small : request.number < 2 ^ 64
  pub few : request.count < 2 ^ 16
  pub spelled : bytes ≡ header request.session request.number request.count

-- the fault is the first that fits, in this order: the length is wrong, the number is 0. Reading a
-- request has no other
abbrev pub HasRequestFault : List ℕ → PacketFault → Type 0
HasRequestFault bytes BadRequestLength = ¬ (length bytes ≡ 20)
HasRequestFault bytes ZeroSequence = (length bytes ≡ 20) × (number_at bytes ≡ 0)
HasRequestFault bytes _ = ⊥
