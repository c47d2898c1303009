-- Levels whose ranks rise, after an edit, and how many shares they show down to a rank.
use Rattle.std.proofs.Common.{◌≡◌, ℕ, zero, suc, ◌+◌, ◌-◌, ◌<◌, ◌≤◌, Bool, List, [], ◌∷◌, length, get_or, set, drop, refl, sym, ap, ◌∙◌, subst, arith, cond, true, false, inl, inr}
use Rattle.std.specs.Prelude.{nat_le, sum_by}
use Rattle.std.specs.List.{AllByRecursion, insert, remove}
use Rattle.std.proofs.lemmas.Bool.{le-leb, lt-leb, cases_eq, cases_lt}
use Rattle.std.proofs.lemmas.List.{get_or_default}
use Rattle.std.proofs.lemmas.List.Sums.{sum_by-cons, sum_by-le-sum_by, sum_by-remove, sum_by-insert, sum_by-set, sum_by-drop_more}
use Rattle.itch_book.specs.declared.level.Level.{Level}
use Rattle.itch_book.specs.Bests.{IsBestLevel, whole_lots}
use Rattle.itch_book.specs.Levels.{AreRising, HasShares, IsLevelAt, LiesBetween, level_depth, shares_down_to}

-- what holds of all holds of the one at a place
pub all_at : (P : Level → Type 0) (xs : List Level) (k : ℕ) (d : Level) → AllByRecursion P xs
    → k < length xs → P (get_or xs k d)
all_at P [] k d all h = absurd (omega arith)
all_at P (x ∷ xs) zero d all h = all.0
all_at P (x ∷ xs) (suc k) d all h = all_at P xs k d all.1 (omega arith)

-- the ranks rise from place to place
pub rising_at : (xs : List Level) (i j : ℕ) (d e : Level) → AreRising xs → i < j → j < length xs
    → (get_or xs i d).rank < (get_or xs j e).rank
rising_at [] i j d e up l h = absurd (omega arith)
rising_at (x ∷ xs) i zero d e up l h = absurd (omega arith)
rising_at (x ∷ xs) zero (suc j) d e up l h =
    all_at (λ (better : Level). x.rank < better.rank) xs j e up.1 (omega arith)
rising_at (x ∷ xs) (suc i) (suc j) d e up l h =
    rising_at xs i j d e up.2 (omega arith) (omega arith)

pub shares_at : (xs : List Level) (k : ℕ) (d : Level) → AreRising xs → k < length xs
    → (get_or xs k d).shares ≤ 9223372036854775808
shares_at [] k d up h = absurd (omega arith)
shares_at (x ∷ xs) zero d up h = up.0
shares_at (x ∷ xs) (suc k) d up h = shares_at xs k d up.2 (omega arith)

-- an edit of a list of which something holds
all_insert : (P : Level → Type 0) (xs : List Level) (i : ℕ) (y : Level) → AllByRecursion P xs → P y
    → AllByRecursion P (insert xs i y)
all_insert P xs zero y all h = (h, all)
all_insert P [] (suc i) y all h = (h, tt)
all_insert P (x ∷ xs) (suc i) y all h = (all.0, all_insert P xs i y all.1 h)

all_remove : (P : Level → Type 0) (xs : List Level) (i : ℕ) → AllByRecursion P xs
    → AllByRecursion P (remove xs i)
all_remove P [] zero all = tt
all_remove P [] (suc i) all = tt
all_remove P (x ∷ xs) zero all = all.1
all_remove P (x ∷ xs) (suc i) all = (all.0, all_remove P xs i all.1)

all_set : (P : Level → Type 0) (xs : List Level) (i : ℕ) (y : Level) → AllByRecursion P xs → P y
    → AllByRecursion P (set xs i y)
all_set P [] i y all h = tt
all_set P (x ∷ xs) zero y all h = (h, all.1)
all_set P (x ∷ xs) (suc i) y all h = (all.0, all_set P xs i y all.1 h)

all_from : (xs : List Level) (rank : ℕ)
    → ((k : ℕ) (d : Level) → k < length xs → rank < (get_or xs k d).rank)
    → AllByRecursion (λ (better : Level). rank < better.rank) xs
all_from [] rank h = tt
all_from (x ∷ xs) rank h =
    (h 0 x (omega arith), all_from xs rank (λ k d l. h (suc k) d (omega arith)))

-- a level at a rank that there was not, in its place
pub AreRising-insert : (xs : List Level) (i : ℕ) (y : Level) → AreRising xs
    → y.shares ≤ 9223372036854775808 → i ≤ length xs
    → ((k : ℕ) (d : Level) → k < i → (get_or xs k d).rank < y.rank)
    → ((k : ℕ) (d : Level) → i ≤ k → k < length xs → y.rank < (get_or xs k d).rank)
    → AreRising (insert xs i y)
AreRising-insert xs zero y up few h before from =
    (few, all_from xs y.rank (λ k d l. from k d (omega arith) l), up)
AreRising-insert [] (suc i) y up few h before from = absurd (omega arith)
AreRising-insert (x ∷ xs) (suc i) y up few h before from = (
  up.0,
  all_insert (λ (better : Level). x.rank < better.rank) xs i y up.1 (before 0 x (omega arith)),
  AreRising-insert xs i y up.2 few (omega arith)
      (λ k d l. before (suc k) d (omega arith))
      (λ k d l m. from (suc k) d (omega arith) (omega arith)),
)

pub AreRising-remove : (xs : List Level) (i : ℕ) → AreRising xs → AreRising (remove xs i)
AreRising-remove [] zero up = tt
AreRising-remove [] (suc i) up = tt
AreRising-remove (x ∷ xs) zero up = up.2
AreRising-remove (x ∷ xs) (suc i) up = (
  up.0,
  all_remove (λ (better : Level). x.rank < better.rank) xs i up.1,
  AreRising-remove xs i up.2,
)

-- the same rank in its place
all_set_same : (xs : List Level) (i : ℕ) (y d : Level) (rank : ℕ)
    → AllByRecursion (λ (better : Level). rank < better.rank) xs → y.rank ≡ (get_or xs i d).rank
    → AllByRecursion (λ (better : Level). rank < better.rank) (set xs i y)
all_set_same [] i y d rank all e = tt
all_set_same (x ∷ xs) zero y d rank all e = (omega (arith, all.0, e), all.1)
all_set_same (x ∷ xs) (suc i) y d rank all e = (all.0, all_set_same xs i y d rank all.1 e)

-- other shares at the same rank
pub AreRising-set : (xs : List Level) (i : ℕ) (y d : Level) → AreRising xs
    → y.shares ≤ 9223372036854775808 → y.rank ≡ (get_or xs i d).rank → AreRising (set xs i y)
AreRising-set [] i y d up few e = tt
AreRising-set (x ∷ xs) zero y d up few e = (
  few,
  subst (λ (r : ℕ). AllByRecursion (λ (better : Level). r < better.rank) xs) (sym e) up.1,
  up.2,
)
AreRising-set (x ∷ xs) (suc i) y d up few e = (
  up.0,
  all_set_same xs i y d x.rank up.1 e,
  AreRising-set xs i y d up.2 few e,
)

-- ---- how many shares there are down to a rank

abbrev pub shares_of : Level → ℕ
shares_of level = level.shares

down_to-le : (rank : ℕ) (x : Level) → shares_down_to rank x ≤ x.shares
down_to-le rank x = elim (nat_le rank x.rank) as (λ b. cond b x.shares 0 ≤ x.shares) [
  | true ↦ omega arith
  | false ↦ omega arith
]

in_reach : (rank : ℕ) (x : Level) → rank ≤ x.rank → shares_down_to rank x ≡ x.shares
in_reach rank x h = ap (λ b. cond b x.shares 0) (le-leb rank x.rank h)

out_of_reach : (rank : ℕ) (x : Level) → x.rank < rank → shares_down_to rank x ≡ 0
out_of_reach rank x h = ap (λ b. cond b x.shares 0) (lt-leb rank x.rank h)

-- all of them are better
depth_all : (xs : List Level) (rank : ℕ)
    → AllByRecursion (λ (better : Level). rank < better.rank) xs
    → level_depth xs rank ≡ sum_by shares_of xs
depth_all [] rank all = refl
depth_all (x ∷ xs) rank all =
    omega (
      arith,
      sum_by-cons (shares_down_to rank) x xs,
      sum_by-cons shares_of x xs,
      in_reach rank x (omega (arith, all.0)),
      depth_all xs rank all.1,
    )

-- down to a level there are its shares and those of the levels after it
pub depth_at : (xs : List Level) (n : ℕ) (d : Level) → AreRising xs → n < length xs
    → level_depth xs (get_or xs n d).rank ≡ sum_by shares_of (drop n xs)
depth_at [] n d up h = absurd (omega arith)
depth_at (x ∷ xs) zero d up h =
    omega (
      arith,
      sum_by-cons (shares_down_to x.rank) x xs,
      sum_by-cons shares_of x xs,
      in_reach x.rank x (omega arith),
      depth_all xs x.rank up.1,
    )
depth_at (x ∷ xs) (suc n) d up h =
    omega (
      arith,
      sum_by-cons (shares_down_to (get_or xs n d).rank) x xs,
      out_of_reach (get_or xs n d).rank x
          (all_at (λ (better : Level). x.rank < better.rank) xs n d up.1 (omega arith)),
      depth_at xs n d up.2 (omega arith),
    )

-- down to a rank past the first levels there are at most the shares of the others
pub depth_past : (xs : List Level) (n rank : ℕ)
    → ((k : ℕ) (d : Level) → k < n → k < length xs → (get_or xs k d).rank < rank)
    → level_depth xs rank ≤ sum_by shares_of (drop n xs)
depth_past xs zero rank h =
    sum_by-le-sum_by (shares_down_to rank) shares_of xs (λ x. down_to-le rank x)
depth_past [] (suc n) rank h = omega arith
depth_past (x ∷ xs) (suc n) rank h =
    omega (
      arith,
      sum_by-cons (shares_down_to rank) x xs,
      out_of_reach rank x (h 0 x (omega arith) (omega arith)),
      depth_past xs n rank (λ k d l m. h (suc k) d (omega arith) (omega arith)),
    )

-- a rank at which there is no level
same_reach : (rank : ℕ) (x : Level) → (x.rank ≡ rank → ⊥)
    → shares_down_to rank x ≡ shares_down_to (rank + 1) x
same_reach rank x apart = elim (cases_lt x.rank rank) [
  | inl l ↦ out_of_reach rank x l ∙ sym (out_of_reach (rank + 1) x (omega arith))
  | inr l ↦ elim (cases_eq x.rank rank) [
    | inl e ↦ absurd (apart e)
    | inr ne ↦ in_reach rank x l ∙ sym (in_reach (rank + 1) x (omega arith))
  ]
]

depth_skips : (xs : List Level) (rank : ℕ)
    → ((k : ℕ) (d : Level) → k < length xs → (get_or xs k d).rank ≡ rank → ⊥)
    → level_depth xs rank ≡ level_depth xs (rank + 1)
depth_skips [] rank apart = refl
depth_skips (x ∷ xs) rank apart =
    omega (
      arith,
      sum_by-cons (shares_down_to rank) x xs,
      sum_by-cons (shares_down_to (rank + 1)) x xs,
      same_reach rank x (apart 0 x (omega arith)),
      depth_skips xs rank (λ k d l. apart (suc k) d (omega arith)),
    )

-- a rank at which there is one
depth_splits : (xs : List Level) (n : ℕ) (d : Level) → AreRising xs → n < length xs
    → level_depth xs (get_or xs n d).rank
    ≡ (get_or xs n d).shares + level_depth xs ((get_or xs n d).rank + 1)
depth_splits [] n d up h = absurd (omega arith)
depth_splits (x ∷ xs) zero d up h =
    omega (
      arith,
      sum_by-cons (shares_down_to x.rank) x xs,
      sum_by-cons (shares_down_to (x.rank + 1)) x xs,
      in_reach x.rank x (omega arith),
      out_of_reach (x.rank + 1) x (omega arith),
      depth_skips xs x.rank (λ k e l same. (
          let more = all_at (λ (better : Level). x.rank < better.rank) xs k e up.1 l in
          let no : ⊥ = omega (arith, more, same) in no
          )),
    )
depth_splits (x ∷ xs) (suc n) d up h =
    let past = all_at (λ (better : Level). x.rank < better.rank) xs n d up.1 (omega arith) in
    omega (
      arith,
      sum_by-cons (shares_down_to (get_or xs n d).rank) x xs,
      sum_by-cons (shares_down_to ((get_or xs n d).rank + 1)) x xs,
      out_of_reach (get_or xs n d).rank x past,
      out_of_reach ((get_or xs n d).rank + 1) x (omega (arith, past)),
      depth_splits xs n d up.2 (omega arith),
    )

-- where shares can be taken away there is a level that has them
none_is : (xs : List Level) (at rank shares : ℕ) → 0 < shares
    → level_depth xs (rank + 1) + shares ≤ level_depth xs rank
    → ((k : ℕ) (d : Level) → k < length xs → (get_or xs k d).rank ≡ rank → ⊥) → ⊥
none_is xs at rank shares some h apart =
    let same = depth_skips xs rank apart in
    let no : ⊥ = omega (arith, same, h) in no

-- no level is of the rank, where the one at its place isn't
apart_from : (xs : List Level) (at rank : ℕ) → AreRising xs → LiesBetween xs rank at
    → ((d : Level) → at < length xs → (get_or xs at d).rank ≡ rank → ⊥)
    → (k : ℕ) (d : Level) → k < length xs → (get_or xs k d).rank ≡ rank → ⊥
apart_from xs at rank up between here k d l same = elim (cases_lt k at) [
  | inl before ↦ (
      let less = between.before k d before in
      let no : ⊥ = omega (arith, less, same) in no
      )
  | inr from ↦ elim (cases_eq k at) [
    | inl e ↦ (
        let at_it : (get_or xs at d).rank ≡ rank = ap (λ n. (get_or xs n d).rank) (sym e) ∙ same in
        here d (omega (arith, e, l)) at_it
        )
    | inr ne ↦ (
        let more = rising_at xs at k d d up (omega (arith, from, ne)) l in
        let least = between.from at d (omega arith) (omega (arith, from, ne, l)) in
        let no : ⊥ = omega (arith, more, least, same) in no
        )
  ]
]

has_at : (xs : List Level) (at rank shares : ℕ) → AreRising xs → LiesBetween xs rank at
    → 0 < shares → level_depth xs (rank + 1) + shares ≤ level_depth xs rank
    → at < length xs → (d : Level)
    → ((get_or xs at d).rank ≡ rank) × (shares ≤ (get_or xs at d).shares)
has_at xs at rank shares up between some h below d = elim (cases_eq (get_or xs at d).rank rank) [
  | inl e ↦ (
      let split = subst
      (λ (r : ℕ). level_depth xs r ≡ (get_or xs at d).shares + level_depth xs (r + 1))
      e (depth_splits xs at d up below) in
      (e, omega (arith, split, h))
      )
  | inr ne ↦ absurd (none_is xs at rank shares some h (apart_from xs at rank up between
      (λ other l same. ne (ap (λ (x : Level). x.rank)
      (get_or_default xs at d other below) ∙ same))))
]

pub has_shares : (xs : List Level) (at rank shares : ℕ) → AreRising xs → LiesBetween xs rank at
    → 0 < shares → level_depth xs (rank + 1) + shares ≤ level_depth xs rank
    → HasShares xs at rank shares
has_shares xs at rank shares up between some h = elim (cases_lt at (length xs)) [
  | inr past ↦ absurd (none_is xs at rank shares some h
      (apart_from xs at rank up between (λ d l same. absurd (omega (arith, past, l)))))
  | inl below ↦ record {
    at = record {
      below = below;
      rank_is = λ d. (has_at xs at rank shares up between some h below d).0;
    };
    enough = λ d. (has_at xs at rank shares up between some h below d).1;
  }
]

-- ---- edits

cond_add : (b : Bool) (m n : ℕ) → cond b (m + n) 0 ≡ cond b m 0 + cond b n 0
cond_add true m n = refl
cond_add false m n = refl

-- the shares of a level of this rank
reach_at : (r : ℕ) (x : Level) (rank shares : ℕ) → x.rank ≡ rank → x.shares ≡ shares
    → shares_down_to r x ≡ cond (nat_le r rank) shares 0
reach_at r x rank shares e f =
    ap (λ n. cond (nat_le r n) x.shares 0) e ∙ ap (λ n. cond (nat_le r rank) n 0) f

pub depth-insert : (xs : List Level) (i : ℕ) (y : Level) (r : ℕ)
    → level_depth (insert xs i y) r ≡ level_depth xs r + cond (nat_le r y.rank) y.shares 0
depth-insert xs i y r = sum_by-insert (shares_down_to r) xs i y

-- more or less of the shares of the same level: `least` is what there is before or after, and
-- `more` the difference
pub depth-set : (xs : List Level) (i : ℕ) (y d : Level) (r rank least more : ℕ) → i < length xs
    → (get_or xs i d).rank ≡ rank → y.rank ≡ rank
    → (get_or xs i d).shares ≡ least → y.shares ≡ least + more
    → level_depth (set xs i y) r ≡ level_depth xs r + cond (nat_le r rank) more 0
depth-set xs i y d r rank least more h e f old new =
    omega (
      arith,
      sum_by-set (shares_down_to r) xs i y d h,
      reach_at r (get_or xs i d) rank least e old,
      reach_at r y rank (least + more) f new,
      cond_add (nat_le r rank) least more,
    )

pub depth-set_less : (xs : List Level) (i : ℕ) (y d : Level) (r rank least less : ℕ) → i < length xs
    → (get_or xs i d).rank ≡ rank → y.rank ≡ rank
    → (get_or xs i d).shares ≡ least + less → y.shares ≡ least
    → level_depth (set xs i y) r + cond (nat_le r rank) less 0 ≡ level_depth xs r
depth-set_less xs i y d r rank least less h e f old new =
    omega (
      arith,
      sum_by-set (shares_down_to r) xs i y d h,
      reach_at r (get_or xs i d) rank (least + less) e old,
      reach_at r y rank least f new,
      cond_add (nat_le r rank) least less,
    )

pub depth-remove : (xs : List Level) (i : ℕ) (d : Level) (r rank shares : ℕ) → i < length xs
    → (get_or xs i d).rank ≡ rank → (get_or xs i d).shares ≡ shares
    → level_depth (remove xs i) r + cond (nat_le r rank) shares 0 ≡ level_depth xs r
depth-remove xs i d r rank shares h e f =
    omega (
      arith,
      sum_by-remove (shares_down_to r) xs i d h,
      reach_at r (get_or xs i d) rank shares e f,
    )

-- ---- places, and the best

-- the levels before one of a lower rank
pub before_place : (xs : List Level) (at rank : ℕ) (z : Level) → AreRising xs → 0 < at
    → at ≤ length xs → (get_or xs (at - 1) z).rank < rank
    → (k : ℕ) (d : Level) → k < at → (get_or xs k d).rank < rank
before_place xs at rank z up some within lower k d l = elim (cases_eq k (at - 1)) [
  | inl e ↦ (
      let same = ap (λ (x : Level). x.rank) (get_or_default xs k d z (omega arith)) in
      let there = ap (λ n. (get_or xs n z).rank) e in
      omega (arith, same, there, lower)
      )
  | inr ne ↦ omega (
    arith,
    rising_at xs k (at - 1) d z up (omega (arith, ne)) (omega arith),
    lower,
  )
]

-- the levels from a place on, at which there is none of the rank
pub after_place : (xs : List Level) (at rank : ℕ) → AreRising xs → LiesBetween xs rank at
    → (IsLevelAt xs at rank → ⊥)
    → (k : ℕ) (d : Level) → at ≤ k → k < length xs → rank < (get_or xs k d).rank
after_place xs at rank up between apart k d from l = elim (cases_eq at k) [
  | inl e ↦ (
      let least = between.from k d from l in
      elim (cases_eq (get_or xs k d).rank rank) [
        | inl same ↦ absurd (apart (record {
          below = omega arith;
          rank_is = λ other. ap (λ (x : Level). x.rank) (get_or_default xs at other d (omega arith))
              ∙ ap (λ n. (get_or xs n d).rank) e ∙ same;
        }))
        | inr ne ↦ omega (arith, least, ne)
      ]
      )
  | inr ne ↦ omega (
    arith,
    rising_at xs at k d d up (omega (arith, ne)) l,
    between.from at d (omega arith) (omega (arith, from, l)),
  )
]

-- the level that reaches a lot, where the better ones didn't
pub best_here : (xs : List Level) (at lot shares size : ℕ) (x y : Level) → AreRising xs → 0 < at
    → at ≤ length xs → shares ≡ sum_by shares_of (drop at xs) → shares < lot
    → x ≡ get_or xs (at - 1) x → y ≡ get_or xs (at - 1) y → lot ≤ shares + x.shares
    → size ≡ whole_lots lot (shares + x.shares)
    → IsBestLevel lot (level_depth xs) (record { rank = y.rank; shares = size })
best_here xs at lot shares size x y up some within passed short read_x read_y reached whole =
    let below : at - 1 < length xs = omega arith in
    let next : (at - 1) + 1 ≡ at = omega arith in
    let same : get_or xs (at - 1) x ≡ get_or xs (at - 1) y =
    get_or_default xs (at - 1) x y below in
    let rest : sum_by shares_of (drop (at - 1) xs)
    ≡ x.shares + sum_by shares_of (drop at xs) =
    sum_by-drop_more shares_of xs (at - 1) x below
    ∙ ap (λ (t : Level). t.shares + sum_by shares_of (drop ((at - 1) + 1) xs)) (sym read_x)
    ∙ ap (λ n. x.shares + sum_by shares_of (drop n xs)) next in
    let down : level_depth xs y.rank ≡ sum_by shares_of (drop (at - 1) xs) =
    ap (λ (t : Level). level_depth xs t.rank) read_y ∙ depth_at xs (at - 1) y up below in
    record {
      reaches = omega (arith, down, rest, passed, reached);
      best = λ rank past. omega (
        arith,
        depth_past xs at rank (λ k d l m. before_place xs at rank y up some within
            (omega (arith, past, ap (λ (t : Level). t.rank) read_y)) k d l),
        passed,
        short,
      );
      shares = (
          let all : shares + x.shares ≡ level_depth xs y.rank = omega (arith, down, rest, passed) in
          whole ∙ ap (whole_lots lot) all
          );
    }

-- and where all of them don't there is none
pub none_here : (xs : List Level) (at lot shares : ℕ) → at ≤ 0
    → shares ≡ sum_by shares_of (drop at xs) → shares < lot → (r : ℕ) → level_depth xs r < lot
none_here xs at lot shares over passed short r =
    let none : at ≡ 0 = omega arith in
    let all : shares ≡ sum_by shares_of xs =
    passed ∙ ap (λ n. sum_by shares_of (drop n xs)) none in
    omega (arith, depth_past xs 0 r (λ k d l m. absurd (omega (arith, l))), all, short)

-- ---- shares that were added and are taken away again

reach_falls : (rank : ℕ) (x : Level) → shares_down_to (rank + 1) x ≤ shares_down_to rank x
reach_falls rank x = elim (cases_lt x.rank (rank + 1)) [
  | inl l ↦ omega (arith, out_of_reach (rank + 1) x l)
  | inr l ↦ omega (arith, in_reach (rank + 1) x l, in_reach rank x (omega arith))
]

pub added_take : (old new : List Level) (rank shares : ℕ)
    → ((r : ℕ) → level_depth new r ≡ level_depth old r + cond (nat_le r rank) shares 0)
    → level_depth new (rank + 1) + shares ≤ level_depth new rank
added_take old new rank shares added =
    omega (
      arith,
      added rank,
      added (rank + 1),
      ap (λ b. cond b shares 0) (le-leb rank rank (omega arith)),
      ap (λ b. cond b shares 0) (lt-leb (rank + 1) rank (omega arith)),
      sum_by-le-sum_by (shares_down_to (rank + 1)) (shares_down_to rank) old (reach_falls rank),
    )
