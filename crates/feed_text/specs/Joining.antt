-- Packets that a session that nothing was taken of doesn't refuse. Cited by private clauses alone.
use Rattle.std.specs.Prelude.{◌≡◌, ℕ, ◌<◌, ◌≤◌, Option, Some, None}
use Rattle.mold_packet.specs.declared.packet.Kind.{Kind}
use Rattle.mold_packet.specs.declared.packet.Kind.TheVariants as kinds

-- a packet of this kind, with this number and this last number, isn't past an end
abbrev pub IsNotPast : Option ℕ → Kind → ℕ → ℕ → Type 0
IsNotPast None kind number last = Unit {0}
IsNotPast (Some end) kinds.Messages number last = last < end
IsNotPast (Some end) kinds.Heartbeat number last = number ≤ end
IsNotPast (Some end) kinds.End number last = number ≡ end
