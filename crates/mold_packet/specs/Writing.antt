-- The effect of writing into a buffer.
use Rattle.std.specs.Prelude.{◌≡◌, ℕ, ◌<◌, ◌≤◌, List, length, drop}
use Rattle.mold_packet.specs.declared.fault.PacketFault.{PacketFault}
use Rattle.mold_packet.specs.declared.fault.PacketFault.TheVariants.{BufferTooSmall}

-- the first n bytes were written, and the others are unchanged
pub record WritesFirst (n : ℕ) (old new : List ℕ) : Type 0 where
  pub room : n ≤ length old
  pub others : drop n new ≡ drop n old

-- n bytes don't fit, and nothing changed
pub record WritesNothing (fault : PacketFault) (n : ℕ) (old new : List ℕ) : Type 0 where
  pub is_too_small : fault ≡ BufferTooSmall
  pub short : length old < n
  pub unchanged : new ≡ old
