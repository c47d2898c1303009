-- Places of a window: empty ones are added, one is filled, and the first is taken away.
use Rattle.std.proofs.Common.{◌≡◌, ◌≢◌, ℕ, zero, suc, ◌+◌, ◌-◌, ◌<◌, ◌≤◌, Bool, true, false, List, [], ◌∷◌, ◌++◌, length, drop, replicate, Option, Some, None, refl, sym, ap, ◌∙◌, arith, inl, inr, length-append, append_assoc}
use Rattle.std.specs.Prelude.{is_some, slice_set, nat_eq, count_by, if◌then◌else◌}
use Rattle.std.specs.Option.{option_and_then}
use Rattle.std.proofs.lemmas.Bool.{cases_lt, lt-ltb, le-ltb, eq-eqb, ne_eqb, false≢true}
use Rattle.std.proofs.lemmas.Bool.Decides.{nat_tests}
use Rattle.std.proofs.lemmas.List.{length-replicate}
use Rattle.std.proofs.Math.ListN.{length-set}
use Rattle.circular_buffer.proofs.Places.{slice_get-set_same, slice_get-set_other, slice_get-drop}
use Rattle.feed_types.specs.declared.item.Item.{Item}
use Rattle.line_arbiter.specs.Holding.{in_place}
use Rattle.line_arbiter.specs.Filling.{put_at}
use Rattle.line_arbiter.proofs.Counting.{count_first, one_if}

pub blank_more : {X : Type 0} (xs : List X) (x : X) (n : ℕ) → length xs < n → (xs ++ x ∷ [])
    ++ replicate (n - length (xs ++ x ∷ [])) x ≡ xs ++ replicate (n - length xs) x
blank_more xs x n h = let one : suc (n - length (xs ++ x ∷ [])) ≡ n - length xs =
    omega (arith, h, length-append xs (x ∷ [])) in append_assoc xs (x ∷ []) _
    ∙ ap (λ k. xs ++ replicate k x) one

-- what a place holds once the one at k was filled
abbrev pub filled_at : ℕ → Item → ℕ → Option Item → Option Item
filled_at k item n found = if nat_eq n k then Some item else found

one_place : (k n : ℕ) (item : Item) (found : Option Item) (a b : Option Item)
    → (n ≡ k → a ≡ Some item) → (n ≢ k → a ≡ found) → a ≡ filled_at k item n found
one_place k n item found a b same other = by_test (nat_eq n k) refl
  where
    by_test : (t : Bool) → nat_eq n k ≡ t → a ≡ (if nat_eq n k then Some item else found)
    by_test true e = let k_is : n ≡ k = grind (arith, nat_tests) in same k_is
        ∙ sym (ap (λ (t : Bool). if t then Some item else found) e)
    by_test false e = let k_not : n ≢ k = λ q. let r = eq-eqb n k q in false≢true (sym e ∙ r)
        in other k_not ∙ sym (ap (λ (t : Bool). if t then Some item else found) e)

at_end : (m n : ℕ) (item : Item) → in_place (replicate m None ++ Some item ∷ [])
    n ≡ filled_at m item n None
at_end zero zero item = refl
at_end zero (suc n) item = sym (ap (λ (t : Bool). if t then Some item else None)
    (ne_eqb (suc n) 0 (λ e. omega arith)))
at_end (suc m) zero item = sym (ap (λ (t : Bool). if t then Some item else None)
    (ne_eqb 0 (suc m) (λ e. omega arith)))
at_end (suc m) (suc n) item = at_end m n item ∙ ap (λ (t : Bool). if t then Some item else None)
    (grind (arith, nat_tests))

after : (xs : List (Option Item)) (m n : ℕ) (item : Item)
    → in_place (xs ++ (replicate m None ++ Some item ∷ [])) n ≡ filled_at
    (length xs + m) item n (in_place xs n)
after [] m n item = at_end m n item ∙ ap (λ (k : ℕ). filled_at k item n None) (omega arith)
after (x ∷ xs) m zero item = sym (ap (λ (t : Bool). if t then Some item else x)
    (ne_eqb 0 (length (x ∷ xs) + m) (λ e. omega arith)))
after (x ∷ xs) m (suc n) item = after xs m n item
    ∙ ap (λ (t : Bool). if t then Some item else in_place xs n) (grind (arith, nat_tests))

within : (xs : List (Option Item)) (k n : ℕ) (item : Item) → k < length xs
    → in_place (slice_set xs k (Some item)) n ≡ filled_at k item n (in_place xs n)
within xs k n item h = one_place k n item (in_place xs n) (in_place (slice_set xs k (Some item)) n)
    None
    (λ e. ap (λ (j : ℕ). in_place (slice_set xs k (Some item)) j) e
    ∙ ap (option_and_then (λ (place : Option Item). place))
    (slice_get-set_same xs k (Some item) h))
    (λ e. ap (option_and_then (λ (place : Option Item). place))
    (slice_get-set_other xs k n (Some item) e))

-- one place is filled, and the others are unchanged
pub in_place-put_at : (xs : List (Option Item)) (k n : ℕ) (item : Item)
    → in_place (put_at xs k item) n ≡ filled_at k item n (in_place xs n)
in_place-put_at xs k n item = elim (cases_lt k (length xs)) [
  | inl lt ↦ ap (λ (t : Bool). in_place (if t then slice_set xs k (Some item) else xs
      ++ replicate (k - length xs) None ++ Some item ∷ []) n) (lt-ltb k (length xs) lt)
      ∙ within xs k n item lt
  | inr le ↦
      ap (λ (t : Bool). in_place (if t then slice_set xs k (Some item) else xs
      ++ replicate (k - length xs) None ++ Some item ∷ []) n) (le-ltb k (length xs) le)
      ∙ ap (λ (ys : List (Option Item)). in_place ys n)
      (append_assoc xs (replicate (k - length xs) None) (Some item ∷ []))
      ∙ after xs (k - length xs) n item
      ∙ ap (λ (j : ℕ). filled_at j item n (in_place xs n))
      (let e : length xs + (k - length xs) ≡ k = omega arith in e)
]

pub length-put_at : (xs : List (Option Item)) (k : ℕ) (item : Item)
    → ((k < length xs) → length (put_at xs k item) ≡ length xs)
    × (length xs ≤ k → length (put_at xs k item) ≡ k + 1)
length-put_at xs k item = (
  λ lt. ap (λ (t : Bool). length (if t then slice_set xs k (Some item) else xs
      ++ replicate (k - length xs) None ++ Some item ∷ [])) (lt-ltb k (length xs) lt)
      ∙ length-set xs k (Some item),
  λ le. ap (λ (t : Bool). length (if t then slice_set xs k (Some item) else xs
      ++ replicate (k - length xs) None ++ Some item ∷ [])) (le-ltb k (length xs) le)
      ∙ omega (
        arith,
        length-append (xs ++ replicate (k - length xs) None) (Some item ∷ []),
        length-append xs (replicate {A = Option Item} (k - length xs) None),
        length-replicate
            {A = Option Item} (k - length xs) None,
      ),
)

count_end : (m : ℕ) (item : Item) → count_by is_some (replicate m None ++ Some item ∷ []) ≡ 1
count_end zero item = refl
count_end (suc m) item = count_first is_some None (replicate m None ++ Some item ∷ [])
    ∙ ap (λ (k : ℕ). 0 + k) (count_end m item)

count_after : (xs : List (Option Item)) (m : ℕ) (item : Item)
    → count_by is_some (xs ++ (replicate m None ++ Some item ∷ [])) ≡ count_by is_some xs + 1
count_after [] m item = count_end m item
count_after (x ∷ xs) m item = let k = count_after xs m item
    in omega (
      arith,
      k,
      count_first is_some x xs,
      count_first is_some x (xs
          ++ (replicate m None ++ Some item ∷ [])),
    )

count_filled : (x : Option Item) (xs : List (Option Item)) (item : Item) → x ≡ None
    → count_by is_some (Some item ∷ xs) ≡ count_by is_some (x ∷ xs) + 1
count_filled x xs item e = count_first is_some (Some item) xs
    ∙ (let k : count_by is_some (x ∷ xs) ≡ 0 + count_by is_some xs =
    ap (λ (y : Option Item). count_by is_some (y ∷ xs)) e ∙ count_first is_some None xs
    in omega arith)

count_within : (xs : List (Option Item)) (k : ℕ) (item : Item) → k < length xs
    → in_place xs k ≡ None → count_by is_some (slice_set xs k (Some item)) ≡ count_by is_some xs + 1
count_within [] k item h free = absurd (omega arith)
count_within (x ∷ xs) zero item h free = count_filled x xs item free
count_within (x ∷ xs) (suc k) item h free = let r = count_within xs k item (omega arith) free
    in omega (
      arith,
      r,
      count_first is_some x xs,
      count_first is_some x
          (slice_set xs k (Some item)),
    )

-- and one more is held
pub count-put_at : (xs : List (Option Item)) (k : ℕ) (item : Item) → in_place xs k ≡ None
    → count_by is_some (put_at xs k item) ≡ count_by is_some xs + 1
count-put_at xs k item free = elim (cases_lt k (length xs)) [
  | inl lt ↦ ap (λ (t : Bool). count_by is_some (if t then slice_set xs k (Some item) else xs
      ++ replicate (k - length xs) None ++ Some item ∷ [])) (lt-ltb k (length xs) lt)
      ∙ count_within xs k item lt free
  | inr le ↦
      ap (λ (t : Bool). count_by is_some (if t then slice_set xs k (Some item) else xs
      ++ replicate (k - length xs) None ++ Some item ∷ [])) (le-ltb k (length xs) le)
      ∙ ap (λ (ys : List (Option Item)). count_by is_some ys)
      (append_assoc xs (replicate (k - length xs) None) (Some item ∷ []))
      ∙ count_after xs (k - length xs) item
]

pub in_place-drop : (places : List (Option Item)) (n : ℕ)
    → in_place (drop 1 places) n ≡ in_place places (n + 1)
in_place-drop places n = ap (option_and_then (λ (place : Option Item). place))
    (slice_get-drop 1 places n (n + 1) (omega arith))

-- the first place counts no more
pub count-drop : (places : List (Option Item)) → count_by is_some places ≡ count_by is_some
    (drop 1 places) + one_if (is_some (in_place places 0))
count-drop [] = refl
count-drop (place ∷ places) = count_first is_some place places ∙ omega arith

pub length_rest : (places : List (Option Item)) → length (drop 1 places) ≡ length places - 1
length_rest [] = refl
length_rest (x ∷ places) = omega arith
