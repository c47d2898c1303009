-- What the packets of a session carry: items in a row.
use Rattle.std.specs.Prelude.{◌≡◌, ◌⊎◌, ℕ, ◌+◌, ◌≤◌, List, [], ◌∷◌, ◌++◌, length, map}
use Rattle.std.specs.List.{flat_map, AllByRecursion}
use Rattle.feed_types.specs.declared.item.Item.{Item}
use Rattle.feed_types.specs.declared.item.Item.TheVariants as items
use Rattle.feed_types.specs.declared.item.Numbered.{Numbered}
use Rattle.feed_types.specs.Sessions.{numbered_from, end_item}
use Rattle.mold_packet.specs.declared.packet.Kind.{Kind}
use Rattle.mold_packet.specs.declared.packet.Kind.TheVariants as kinds
use Rattle.mold_packet.specs.Content.{Content, IsContent}
use Rattle.quote_payload.specs.Payload.{item_of}

-- a message's item, which End and Skipped are not
pub record IsMessageItem (item : Item) : Type 0 where
  pub no_end : item ≡ items.End → ⊥
  pub not_skipped : item ≡ items.Skipped → ⊥

abbrev pub numbered_item : Numbered → Item
numbered_item n = n.item

-- Items in a row, from this number on, of which the last may be the end.
pub record RunsFrom (first : ℕ) (output : List Numbered) : Type 0 where
  pub items : List Item
  pub ends : List Numbered
  pub each : AllByRecursion IsMessageItem items
  pub is : output ≡ numbered_from first items ++ ends
  pub end : (ends ≡ []) ⊎ (ends ≡ end_item (first + length items) ∷ [])

-- the end that a packet of this kind and number announces
abbrev pub end_of_kind : Kind → ℕ → List Numbered
end_of_kind kinds.Messages n = []
end_of_kind kinds.Heartbeat n = []
end_of_kind kinds.End n = end_item n ∷ []

-- what a packet carries: its messages as they read, with their numbers, or the end
abbrev pub items_carried : Content → List Numbered
items_carried p = numbered_from p.number (map item_of p.messages) ++ end_of_kind p.kind p.number

-- Packets of the session of this name carry together just this output: each item once, in order,
-- with its number.
pub record Carry (name : List ℕ) (output : List Numbered) (packets : List Content) : Type 0 where
  pub each : AllByRecursion IsContent packets
  pub session : AllByRecursion (λ p. p.session ≡ name) packets
  pub carried : flat_map items_carried packets ≡ output
