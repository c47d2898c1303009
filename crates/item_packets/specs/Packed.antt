-- The datagrams into which items are packed.
use Rattle.std.specs.Prelude.{◌≡◌, ℕ, List, ◌++◌, map, Vec}
use Rattle.std.specs.List.{AllByRecursion}
use Rattle.feed_types.specs.declared.item.Numbered.{Numbered}
use Rattle.mold_packet.specs.declared.packet.Kind.TheVariants as kinds
use Rattle.mold_packet.specs.Content.{Content, spelling}
use Rattle.item_packets.specs.Carried.{Carry}

-- the packet says more than that the session goes on
abbrev pub IsNoHeartbeat : Content → Type 0
IsNoHeartbeat p = p.kind ≡ kinds.Heartbeat → ⊥

-- The datagrams are packets of the session, which together carry just this output, and none is a
-- heartbeat.
pub record ArePacked (name : List ℕ) (output : List Numbered) (datagrams : List (List ℕ))
    : Type 0 where
  pub packets : List Content
  pub carry : Carry name output packets
  pub telling : AllByRecursion IsNoHeartbeat packets
  pub spelled : datagrams ≡ map spelling packets

-- the bytes of each
abbrev pub bytes_of_each : {A : Type 0} → List (Vec ℕ A) → List (List ℕ)
bytes_of_each datagrams = map (λ datagram. datagram.items) datagrams

-- Datagrams that carry just this output follow those that were there.
pub record AddsPacked {A : Type 0} (name : List ℕ) (output : List Numbered)
    (old new : List (Vec ℕ A)) : Type 0 where
  pub datagrams : List (List ℕ)
  pub packed : ArePacked name output datagrams
  pub added : bytes_of_each new ≡ bytes_of_each old ++ datagrams
