-- The laws of the rule of a venue's items, as terms: for rules of lanes, of which one is a member,
-- and
-- for proofs of the crates above.
use Rattle.std.specs.Prelude.{◌≡◌, refl, ℕ, List, [], ◌∷◌, ◌++◌}
use Rattle.feed_types.specs.declared.item.Numbered.{Numbered}
use Rattle.feed_types.specs.Sequence.{Carries, Ends, Place, first_place, place_after, place_after_all, HasPlace, MayCarry, Continues, IsInSequence}

-- each prefix of what goes on from a place goes on from it
pub prefix_continues : (carries : Carries) (ends : Ends) (venue : ℕ) (place : Place)
    (xs ys : List Numbered) →
    Continues carries ends venue place (xs ++ ys) → Continues carries ends venue place xs
prefix_continues carries ends venue place [] ys all = tt
prefix_continues carries ends venue place (x ∷ xs) ys all =
    (all.0, all.1, prefix_continues carries ends venue (place_after place x) xs ys all.2)

-- each prefix of items in sequence is in sequence
pub prefix_in_sequence : (carries : Carries) (ends : Ends) (venue : ℕ) (xs ys : List Numbered) →
    IsInSequence carries ends venue (xs ++ ys) → IsInSequence carries ends venue xs
prefix_in_sequence carries ends venue xs ys all =
    prefix_continues carries ends venue first_place xs ys all

-- the place after one item more
pub place_after_push : (place : Place) (xs : List Numbered) (x : Numbered) →
    place_after_all place (xs ++ x ∷ []) ≡ place_after (place_after_all place xs) x
place_after_push place [] x = refl
place_after_push place (y ∷ ys) x = place_after_push (place_after place y) ys x

-- items that go on from where others end go on from where those begin
pub continues_append : (carries : Carries) (ends : Ends) (venue : ℕ) (place : Place)
    (xs ys : List Numbered) → Continues carries ends venue place xs →
    Continues carries ends venue (place_after_all place xs) ys →
    Continues carries ends venue place (xs ++ ys)
continues_append carries ends venue place [] ys front back = back
continues_append carries ends venue place (x ∷ xs) ys front back = (
  front.0,
  front.1,
  continues_append carries ends venue (place_after place x) xs ys front.2 back,
)

-- one item more
pub continues_push : (carries : Carries) (ends : Ends) (venue : ℕ) (place : Place)
    (xs : List Numbered) (x : Numbered) → Continues carries ends venue place xs →
    HasPlace (place_after_all place xs).number x.number x.item →
    MayCarry carries ends venue (place_after_all place xs) x.item →
    Continues carries ends venue place (xs ++ x ∷ [])
continues_push carries ends venue place xs x front number allowed =
    continues_append carries ends venue place xs (x ∷ []) front (number, allowed, tt)
