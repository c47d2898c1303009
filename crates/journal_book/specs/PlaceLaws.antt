-- Laws of the next wanted place, for crates above; they are proved here, and nobody has to read
-- them.
use Rattle.std.proofs.Common.{◌≡◌, ℕ, zero, suc, ◌+◌, ◌<◌, ◌≤◌, Bool, true, false, cond, List, [], ◌∷◌, ◌++◌, filter, length, take, Option, Some, None, ap, subst, sym, refl, ◌∙◌, arith}
use Rattle.std.specs.Prelude.{slice_get, IfSome, IsTrue}
use Rattle.std.proofs.lemmas.List.{take_all}
use Rattle.feed_types.specs.declared.journal.Notice.{Notice}
use Rattle.journal_book.specs.Places.{IsNextPlace}

-- past the end there is nothing, and only there
pub past_end : {X : Type 0} (xs : List X) (i : ℕ) → length xs ≤ i → slice_get xs i ≡ None
past_end [] i h = refl
past_end (x ∷ xs) zero h = absurd (omega (arith, h))
past_end (x ∷ xs) (suc i) h = past_end xs i (omega (arith, h))

pub none_there : {X : Type 0} (xs : List X) (i : ℕ) → slice_get xs i ≡ None → length xs ≤ i
none_there [] i e = omega arith
none_there (x ∷ xs) zero e = absurd cc
none_there (x ∷ xs) (suc i) e = let h = none_there xs i e in omega arith

pub some_there : {X : Type 0} (xs : List X) (i : ℕ) (x : X) → slice_get xs i ≡ Some x
    → i < length xs
some_there [] i x e = absurd cc
some_there (y ∷ ys) zero x e = omega arith
some_there (y ∷ ys) (suc i) x e = let h = some_there ys i x e in omega arith

-- one that is wanted is the next that was looked at
next_in : {X : Type 0} (p : X → Bool) (xs : List X) (i : ℕ) (x : X) → slice_get xs i ≡ Some x
    → p x ≡ true → slice_get xs i ≡ slice_get (filter p xs) (length (filter p (take i xs)))
next_in p [] i x e t = absurd cc
next_in p (y ∷ ys) zero x e t =
    let same : y ≡ x = cc in
    ap (λ (b : Bool). slice_get (cond b (y ∷ filter p ys) (filter p ys)) 0) (sym (ap p same ∙ t))
next_in p (y ∷ ys) (suc i) x e t =
    elim (p y) as (λ b. slice_get ys i
    ≡ slice_get (cond b (y ∷ filter p ys) (filter p ys))
    (length (cond b (y ∷ filter p (take i ys)) (filter p (take i ys)))))
    [ true ↦ next_in p ys i x e t | false ↦ next_in p ys i x e t ]

take_wanted : {X : Type 0} (p : X → Bool) (xs : List X) (i : ℕ) (x : X) → slice_get xs i ≡ Some x
    → p x ≡ true → filter p (take (suc i) xs) ≡ filter p (take i xs) ++ x ∷ []
take_wanted p [] i x e t = absurd cc
take_wanted p (y ∷ ys) zero x e t =
    let same : y ≡ x = cc in
    subst (λ (z : _). filter p (z ∷ []) ≡ x ∷ []) (sym same) (ap (λ b. cond b (x ∷ []) []) t)
take_wanted p (y ∷ ys) (suc i) x e t =
    elim (p y) as (λ b. cond b (y ∷ filter p (take (suc i) ys)) (filter p (take (suc i) ys))
    ≡ cond b (y ∷ filter p (take i ys)) (filter p (take i ys)) ++ x ∷ []) [
      | true ↦ ap (λ (l : List _). y ∷ l) (take_wanted p ys i x e t)
      | false ↦
          take_wanted p ys i x e t
    ]

module _ (wants : Notice → Bool) (notices : List Notice) (from place : ℕ)
    (found : IsNextPlace wants notices from place) where
  -- what stands there is wanted
  pub is_wanted : (notice : Notice) → slice_get notices place ≡ Some notice → IsTrue (wants notice)
  is_wanted notice here = by (slice_get notices place) here found.wanted
    where
      by : (o : Option Notice) → o ≡ Some notice → IfSome o (λ n. IsTrue (wants n))
          → IsTrue (wants notice)
      by None e h = absurd cc
      by (Some n) e h =
          let same : n ≡ notice = cc in subst (λ (x : Notice). IsTrue (wants x)) same h

  -- it is the first of the wanted ones that wasn't among those before
  pub next_of_wanted : slice_get notices place
      ≡ slice_get (filter wants notices) (length (filter wants (take from notices)))
  next_of_wanted = by (slice_get notices place) refl
    where
      by : (o : Option Notice) → slice_get notices place ≡ o
          → slice_get notices place
          ≡ slice_get (filter wants notices) (length (filter wants (take from notices)))
      by None e =
          let whole : filter wants notices ≡ filter wants (take from notices) =
          ap (filter wants) (sym (take_all place notices (none_there notices place e)))
          ∙ found.passed in
          e ∙ sym (past_end (filter wants notices) (length (filter wants (take from notices)))
          (let n : length (filter wants notices) ≡ length (filter wants (take from notices)) =
          ap length whole in omega (arith, n)))
      by (Some n) e =
          next_in wants notices place n e (is_wanted n e)
          ∙ ap (λ (l : List Notice). slice_get (filter wants notices) (length l)) found.passed

  -- and with it there is one more
  pub one_more_wanted : (notice : Notice) → slice_get notices place ≡ Some notice
      → filter wants (take (place + 1) notices) ≡ filter wants (take from notices) ++ notice ∷ []
  one_more_wanted notice here =
      let one_more : place + 1 ≡ suc place = omega arith in
      ap (λ (k : ℕ). filter wants (take k notices)) one_more
      ∙ take_wanted wants notices place notice here (is_wanted notice here)
      ∙ ap (λ (l : List Notice). l ++ notice ∷ []) found.passed
