-- Where lines carry exactly some sessions, items in sequence are the first of the sessions' items.
use Rattle.std.proofs.Common.{◌≡◌, ◌≢◌, ℕ, zero, suc, ◌+◌, ◌-◌, List, [], ◌∷◌, ◌++◌, length, drop, refl, sym, ◌∙◌, arith, append_assoc}
use Rattle.std.specs.Prelude.{slice_get, Some}
use Rattle.std.proofs.lemmas.Grind.{common_steps}
use Rattle.std.proofs.lemmas.List.{drop_all}
use Rattle.feed_types.specs.declared.item.Item.{Item}
use Rattle.feed_types.specs.declared.item.Item.TheVariants as items
use Rattle.feed_types.specs.declared.item.Numbered.{Numbered}
use Rattle.feed_types.specs.Prefix.{IsPrefix}
use Rattle.feed_types.specs.Sequence.{Carries, Ends, Place, first_place, place_after, place_past, HasPlace, MayCarry, Continues, SkipsNothing}
use Rattle.feed_types.specs.Sessions.{Session, SessionNames, IsSessionAt, IsItemAt, Names, numbered_from, end_item, whole_sessions}

-- a list from one of its places on
drop_at : {X : Type 0} (xs : List X) (k : ℕ) (x : X) → slice_get xs k ≡ Some x
    → drop k xs ≡ x ∷ drop (k + 1) xs
drop_at [] k x h = grind (arith, common_steps)
drop_at (y ∷ ys) zero x h = grind (arith, common_steps)
drop_at (y ∷ ys) (suc k) x h = let e : suc k + 1 ≡ suc (k + 1) = omega arith
    in rw e (drop_at ys k x h)

-- the items of these sessions from a number of the first one on
from_number : ℕ → List Session → List Numbered
from_number n [] = []
from_number n (s ∷ rest) = numbered_from n (drop (n - 1) s.items) ++ end_item (length s.items + 1)
    ∷ whole_sessions rest

-- what is still to come at a place
pub to_come : List Session → Place → List Numbered
to_come all place = from_number place.number (drop (place.ordinal - 1) all)

from_first : (all : List Session) → from_number 1 all ≡ whole_sessions all
unfolding from_number
from_first [] = refl
from_first (s ∷ rest) = sym (append_assoc (numbered_from 1 s.items) (end_item (length s.items + 1)
    ∷ []) (whole_sessions rest))

pub all_to_come : (all : List Session) → to_come all first_place ≡ whole_sessions all
unfolding to_come
all_to_come all = from_first all

-- one more item, at the front of both
front_same : (x y : Numbered) (xs zs all : List Numbered) → x ≡ y → all ≡ y ∷ zs → IsPrefix xs zs
    → IsPrefix (x ∷ xs) all
front_same x y xs zs all e a p = record { rest = p.rest; is = a ∙ rw (p.is, e) refl }

-- what comes at the place of a message, and then what comes at the next
message_at : (all : List Session) (s : Session) (place : Place) (item : Item)
    → IsSessionAt all place.ordinal s → IsItemAt s place.number item
    → to_come all place ≡ record { number = place.number; item = item }
    ∷ to_come all (record { ordinal = place.ordinal; number = place.number + 1 })
unfolding to_come from_number
message_at all s place item at here =
    let next : place.number - 1 + 1 ≡ place.number = let h = here.0 in omega arith in
    let same : place.number + 1 - 1 ≡ place.number = omega arith in
    let items = drop_at s.items (place.number - 1) item here.1 in
    rw (drop_at all (place.ordinal - 1) s at.1, items, next, same) refl

-- what comes at the place of the end, and then what comes in the next session
end_at : (all : List Session) (s : Session) (place : Place)
    → IsSessionAt all place.ordinal s → place.number ≡ length s.items + 1
    → to_come all place ≡ end_item place.number
    ∷ to_come all (record { ordinal = place.ordinal + 1; number = 1 })
unfolding to_come from_number
end_at all s place at here =
    let next : place.ordinal - 1 + 1 ≡ place.ordinal = let h = at.0 in omega arith in
    let same : place.ordinal + 1 - 1 ≡ place.ordinal = omega arith in
    let none : drop (place.number - 1) s.items ≡ [] = drop_all (place.number - 1)
    s.items (omega arith) in
    rw (
      drop_at all (place.ordinal - 1) s at.1,
      none,
      next,
      same,
      from_first (drop place.ordinal all),
      here,
    ) refl

-- an item at its place
one : {sessions : SessionNames} {carries : Carries} {ends : Ends} (venue : ℕ) (all : List Session)
    → Names sessions carries ends venue all
    → (place : Place) (number : ℕ) (item : Item) (xs : List Numbered)
    → HasPlace place.number number item → MayCarry carries ends venue place item
    → item ≢ items.Skipped
    → IsPrefix xs (to_come all (place_past place.ordinal number item))
    → IsPrefix (record { number = number; item = item } ∷ xs) (to_come all place)
one venue all names place number items.Skipped xs e may none more = absurd (none refl)
one venue all names place number items.End xs e may none more =
    let at = (names.ended place.ordinal place.number).0 may in
    front_same _ (end_item place.number) xs _ _ (rw e refl) (end_at all at.0 place at.1 at.2) more
one venue all names place number items.Other xs e may none more =
    let at = (names.carried place.ordinal place.number items.Other).0 may in
    front_same _ (record { number = place.number; item = items.Other }) xs _ _ (rw e refl)
    (message_at all at.0 place items.Other at.1 at.2) (rw e at more)
one venue all names place number (items.Quote quote) xs e may none more =
    let at = (names.carried place.ordinal place.number (items.Quote quote)).0 may in
    front_same _ (record { number = place.number; item = items.Quote quote }) xs _ _ (rw e refl)
    (message_at all at.0 place (items.Quote quote) at.1 at.2) (rw e at more)
one venue all names place number (items.Halt symbol halted) xs e may none more =
    let at = (names.carried place.ordinal place.number (items.Halt symbol halted)).0 may in
    front_same _ (record { number = place.number; item = items.Halt symbol halted }) xs _ _
    (rw e refl) (message_at all at.0 place (items.Halt symbol halted) at.1 at.2) (rw e at more)

pub goes_along : {sessions : SessionNames} {carries : Carries} {ends : Ends} (venue : ℕ)
    (all : List Session) → Names sessions carries ends venue all
    → (place : Place) (xs : List Numbered) → Continues carries ends venue place xs → SkipsNothing xs
    → IsPrefix xs (to_come all place)
goes_along venue all names place [] h none = record { rest = to_come all place; is = refl }
goes_along venue all names place (x ∷ xs) h none = one venue all names place x.number x.item xs h.0
    h.1 none.0 (goes_along venue all names (place_after place x) xs h.2 none.1)
