-- The contents of a window: messages past the last item sent.
use Rattle.std.specs.Prelude.{◌≡◌, ℕ, ◌-◌, nat_le, List, Option, None, slice_get, if◌then◌else◌}
use Rattle.std.specs.Option.{option_and_then}
use Rattle.feed_types.specs.declared.item.Item.{Item}

-- the k-th place, from 0, is that of the number base + 1 + k: it holds an item or nothing
pub record Held : Type 0 where
  pub base : ℕ
  pub width : ℕ
  pub places : List (Option Item)

-- the content of a place: nothing where there is no such place
abbrev pub in_place : List (Option Item) → ℕ → Option Item
in_place places k = option_and_then (λ place. place) (slice_get places k)

-- the item that is held at a number
abbrev pub held_at : Held → ℕ → Option Item
held_at held m =
    if nat_le m held.base then None else in_place held.places (m - held.base - 1)

-- nothing is held
abbrev pub IsEmpty : Held → Type 0
IsEmpty held = (m : ℕ) → held_at held m ≡ None
