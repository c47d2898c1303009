-- The order of a venue's items, over all its sessions.
use Rattle.std.specs.Prelude.{◌≡◌, ◌≢◌, ℕ, ◌+◌, ◌≤◌, List, [], ◌∷◌}
use Rattle.std.specs.List.{AllByRecursion}
use Rattle.feed_types.specs.declared.item.Item.{Item}
use Rattle.feed_types.specs.declared.item.Item.TheVariants.{End, Skipped}
use Rattle.feed_types.specs.declared.item.Numbered.{Numbered}

-- At this venue, in its session of this ordinal, the message of this number may read as this item.
abbrev pub Carries : Type 1
Carries = ℕ → ℕ → ℕ → Item → Type 0

-- At this venue, its session of this ordinal may end with this end number.
abbrev pub Ends : Type 1
Ends = ℕ → ℕ → ℕ → Type 0

-- the place after a venue's items so far: the session's ordinal, from 1, and the number that is
-- next
pub record Place : Type 0 where
  pub ordinal : ℕ
  pub number : ℕ

abbrev pub first_place : Place
first_place = record { ordinal = 1; number = 1 }

-- after an item comes the next number; after End, number 1 of the next session
abbrev pub place_past : ℕ → ℕ → Item → Place
place_past ordinal number End = record { ordinal = ordinal + 1; number = 1 }
place_past ordinal number _ = record { ordinal = ordinal; number = number + 1 }

abbrev pub place_after : Place → Numbered → Place
place_after place x = place_past place.ordinal x.number x.item

-- the place after a list of items
abbrev pub place_after_all : Place → List Numbered → Place
place_after_all place [] = place
place_after_all place (x ∷ xs) = place_after_all (place_after place x) xs

-- an item has the number of its place; Skipped has that or a greater one, up to which the messages
-- from the place on were given up
abbrev pub HasPlace : ℕ → ℕ → Item → Type 0
HasPlace place number Skipped = place ≤ number
HasPlace place number _ = number ≡ place

-- the item may be carried at the place: an end number for End, a message's item otherwise; Skipped
-- may always stand there
abbrev pub MayCarry : Carries → Ends → ℕ → Place → Item → Type 0
MayCarry carries ends venue place End = ends venue place.ordinal place.number
MayCarry carries ends venue place Skipped = Unit {0}
MayCarry carries ends venue place item = carries venue place.ordinal place.number item

-- each item has the number of its place and may be carried there
abbrev pub Continues : Carries → Ends → ℕ → Place → List Numbered → Type 0
Continues carries ends venue place [] = Unit {0}
Continues carries ends venue place (x ∷ xs) =
    HasPlace place.number x.number x.item
    × MayCarry carries ends venue place x.item
    × Continues carries ends venue (place_after place x) xs

-- The rule of a venue's items: the numbers are 1, 2 and so on, but for those that Skipped says were
-- given up; each item may be carried at its number in the present session; after End the next
-- number is 1, in the next session; and nothing else follows End.
abbrev pub IsInSequence : Carries → Ends → ℕ → List Numbered → Type 0
IsInSequence carries ends venue items = Continues carries ends venue first_place items

-- none of the items says that messages were given up
abbrev pub SkipsNothing : List Numbered → Type 0
SkipsNothing items = AllByRecursion (λ x. x.item ≢ Skipped) items
