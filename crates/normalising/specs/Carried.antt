-- What the packets of a session carry, and how they are written.
use Rattle.std.specs.Prelude.{◌≡◌, ℕ, ◌+◌, ◌≤◌, List, map}
use Rattle.std.specs.List.{AllByRecursion}
use Rattle.feed_types.specs.declared.item.Numbered.{Numbered}
use Rattle.line_arbiter.specs.Packets.{Input}
use Rattle.line_arbiter.specs.Streams.{front_of}
use Rattle.mold_packet.specs.declared.packet.Kind.TheVariants as kinds
use Rattle.mold_packet.specs.Content.{Content, spelling}
use Rattle.venue_normaliser.specs.Brought.{before_skip_past}
use Rattle.venue_normaliser.specs.Outputs.{Opening}
pub use Rattle.item_packets.specs.Carried.{Carry, IsMessageItem, RunsFrom}
pub use Rattle.item_packets.specs.Carried.{end_of_kind, items_carried, numbered_item}

-- the number of the last message that is put out of a session, which began so: the one before its
-- first gap
abbrev pub last_put : Opening → List Input → ℕ
last_put opening packets = front_of (before_skip_past opening.number packets)

-- a heartbeat has the number after this last message
abbrev pub BeatsAt : ℕ → Content → Type 0
BeatsAt last p = p.kind ≡ kinds.Heartbeat → p.number ≡ last + 1

-- a heartbeat has at most that number
abbrev pub BeatsWithin : ℕ → Content → Type 0
BeatsWithin last p = p.kind ≡ kinds.Heartbeat → p.number ≤ last + 1

-- The datagrams are packets of the session, which together carry just this output, up to this last
-- message.
pub record AreWritten (name : List ℕ) (last : ℕ) (output : List Numbered)
    (datagrams : List (List ℕ)) : Type 0 where
  pub packets : List Content
  pub carry : Carry name output packets
  pub heartbeats : AllByRecursion (BeatsAt last) packets
  pub spelled : datagrams ≡ map spelling packets
