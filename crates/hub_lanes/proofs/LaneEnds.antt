-- A lane's end in a list of ends, through which more items go.
use Rattle.std.proofs.Common.{◌≡◌, ◌≢◌, ℕ, zero, suc, ◌+◌, List, [], ◌∷◌, ◌++◌, length, Some, refl, ap, ◌∙◌, arith, append_assoc}
use Rattle.std.specs.Prelude.{slice_get, slice_set, sum_by}
use Rattle.std.proofs.lemmas.List.Sums.{sum_by-cons}
use Rattle.fifo_lane.specs.Lane.{LaneEnd, with_items}
use Rattle.feed_steps.specs.laws.Lists.{one_there}

put_twice : {X : Type 0} (xs : List X) (i : ℕ) (x y : X)
    → slice_set (slice_set xs i x) i y ≡ slice_set xs i y
put_twice [] i x y = refl
put_twice (z ∷ zs) zero x y = refl
put_twice (z ∷ zs) (suc i) x y = ap (λ (l : List _). z ∷ l) (put_twice zs i x y)

pub get_there : {X : Type 0} (xs : List X) (i : ℕ) (x y : X) → slice_get xs i ≡ Some x
    → slice_get (slice_set xs i y) i ≡ Some y
get_there [] i x y e = absurd cc
get_there (z ∷ zs) zero x y e = refl
get_there (z ∷ zs) (suc i) x y e = get_there zs i x y e

pub get_other : {X : Type 0} (xs : List X) (i j : ℕ) (x : X) → j ≢ i
    → slice_get (slice_set xs i x) j ≡ slice_get xs j
get_other [] i j x apart = refl
get_other (y ∷ ys) zero zero x apart = absurd (apart refl)
get_other (y ∷ ys) zero (suc j) x apart = refl
get_other (y ∷ ys) (suc i) zero x apart = refl
get_other (y ∷ ys) (suc i) (suc j) x apart = get_other ys i j x (λ h. apart (ap suc h))

module _ {T : Type 0} where
  -- through the end at this place one more item went than before
  pub end_grows : (old between new : List (LaneEnd T)) (k : ℕ) (lane now : LaneEnd T) (xs : List T)
      (x : T) → slice_get old k ≡ Some lane → slice_get between k ≡ Some now
      → between ≡ slice_set old k (with_items lane (lane.items ++ xs))
      → new ≡ slice_set between k (with_items now (now.items ++ x ∷ []))
      → new ≡ slice_set old k (with_items lane (lane.items ++ (xs ++ x ∷ [])))
  end_grows old between new k lane now xs x at at_now were grown =
      let was = with_items lane (lane.items ++ xs) in
      let more : List (LaneEnd T) → LaneEnd T → List (LaneEnd T) =
      λ l e. slice_set l k (with_items e (e.items ++ x ∷ [])) in
      let here : slice_get between k ≡ Some was = ap (λ (l : List (LaneEnd T)). slice_get l k) were
      ∙ get_there old k lane was at in
      let same : now ≡ was = one_there (slice_get between k) now was at_now here in
      grown ∙ ap (more between) same ∙ ap (λ (l : List (LaneEnd T)). more l was) were
      ∙ put_twice old k was (with_items was (was.items ++ x ∷ []))
      ∙ ap (λ (l : List T). slice_set old k (with_items lane l))
      (append_assoc lane.items xs (x ∷ []))

  -- through the end at this place went `n` items more
  pub sum_put : (xs : List (LaneEnd T)) (i n : ℕ) (l w : LaneEnd T) → slice_get xs i ≡ Some l
      → length w.items ≡ length l.items + n
      → sum_by (λ (e : LaneEnd T). length e.items) (slice_set xs i w)
      ≡ sum_by (λ (e : LaneEnd T). length e.items) xs + n
  sum_put [] i n l w at long = absurd cc
  sum_put (x ∷ xs) zero n l w at long =
      let same : x ≡ l = cc in
      let first = ap (λ (e : LaneEnd T). length e.items) same in
      let old = sum_by-cons (λ (e : LaneEnd T). length e.items) x xs in
      let new = sum_by-cons (λ (e : LaneEnd T). length e.items) w xs in
      omega (arith, first, long, old, new)
  sum_put (x ∷ xs) (suc i) n l w at long =
      let rest = sum_put xs i n l w at long in
      let old = sum_by-cons (λ (e : LaneEnd T). length e.items) x xs in
      let new = sum_by-cons (λ (e : LaneEnd T). length e.items) x (slice_set xs i w) in
      omega (arith, rest, old, new)
