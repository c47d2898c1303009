-- Laws of places of lists, for crates above; proved here, and nobody has to read them.
use Rattle.std.proofs.Common.{◌≡◌, ◌≢◌, ℕ, zero, suc, ◌<◌, List, [], ◌∷◌, ◌++◌, length, Some, refl, ap, arith, inl, inr}
use Rattle.std.specs.Prelude.{◌⊎◌, slice_get, slice_set}
use Rattle.std.specs.List.{AllZip}

-- an element within a list
pub get_within : {X : Type 0} (xs : List X) (i : ℕ) → i < length xs
    → (x : X) × (slice_get xs i ≡ Some x)
get_within [] i h = absurd (omega arith)
get_within (x ∷ xs) zero h = (x, refl)
get_within (x ∷ xs) (suc i) h = get_within xs i (omega arith)

-- a list with one place set
pub get_set_same : {X : Type 0} (xs : List X) (i : ℕ) (x y : X)
    → slice_get (slice_set xs i x) i ≡ Some y → y ≡ x
get_set_same [] i x y e = absurd cc
get_set_same (z ∷ xs) zero x y e = cc
get_set_same (z ∷ xs) (suc i) x y e = get_set_same xs i x y e

pub get_set_other : {X : Type 0} (xs : List X) (i j : ℕ) (x : X) → j ≢ i
    → slice_get (slice_set xs i x) j ≡ slice_get xs j
get_set_other [] i j x h = refl
get_set_other (z ∷ xs) zero zero x h = absurd (h refl)
get_set_other (z ∷ xs) zero (suc j) x h = refl
get_set_other (z ∷ xs) (suc i) zero x h = refl
get_set_other (z ∷ xs) (suc i) (suc j) x h = get_set_other xs i j x (λ e. h (omega arith))

pub same_or_not : (j i : ℕ) → (j ≡ i) ⊎ (j ≢ i)
same_or_not zero zero = inl refl
same_or_not zero (suc i) = inr (λ e. absurd (omega arith))
same_or_not (suc j) zero = inr (λ e. absurd (omega arith))
same_or_not (suc j) (suc i) =
    elim (same_or_not j i) [ inl e ↦ inl (ap suc e) | inr n ↦ inr (λ e. n (omega arith)) ]

pub same_set : {X : Type 0} (xs : List X) (i : ℕ) (x : X) → slice_get xs i ≡ Some x
    → slice_set xs i x ≡ xs
same_set [] i x e = refl
same_set (y ∷ xs) zero x e = cc
same_set (y ∷ xs) (suc i) x e = ap (λ (ys : List _). y ∷ ys) (same_set xs i x e)

-- pairs that all hold, and then others
pub zip_both : {A B : Type 0} (R : A → B → Type 0) (xs ys : List A) (us vs : List B)
    → AllZip R xs us → AllZip R ys vs → AllZip R (xs ++ ys) (us ++ vs)
zip_both R [] ys [] vs h k = k
zip_both R [] ys (u ∷ us) vs h k = absurd h
zip_both R (x ∷ xs) ys [] vs h k = absurd h
zip_both R (x ∷ xs) ys (u ∷ us) vs h k = (h.0, zip_both R xs ys us vs h.1 k)
