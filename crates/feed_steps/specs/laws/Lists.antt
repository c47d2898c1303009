-- Lists that begin alike, and places in lists.
use Rattle.std.proofs.Common.{◌≡◌, ◌≢◌, ℕ, zero, suc, ◌<◌, ◌≤◌, List, [], ◌∷◌, ◌++◌, length, get_or, take, drop, Option, Some, refl, sym, ap, ◌∙◌, arith, append_assoc, append-nil, length-append, inl, inr}
use Rattle.std.proofs.Math.Seq.{drop-append_seam}
use Rattle.std.proofs.lemmas.List.{take-append-le}
use Rattle.std.proofs.lemmas.Option.{slice_get_read}
use Rattle.std.specs.Prelude.{slice_get, slice_set, ◌⊎◌}
use Rattle.feed_types.specs.Prefix.{IsPrefix}

pub begins_self : {X : Type 0} (xs : List X) → IsPrefix xs xs
begins_self xs = record { rest = []; is = sym (append-nil xs) }

pub begins_then : {X : Type 0} {xs ys zs : List X} → IsPrefix xs ys → IsPrefix ys zs
    → IsPrefix xs zs
begins_then {xs =
    xs} a b = record {
      rest =
          a.rest ++ b.rest;
      is = b.is ∙ ap (λ (l : List _). l ++ b.rest) a.is
          ∙ append_assoc xs a.rest b.rest;
    }

pub begins_len : {X : Type 0} {xs ys : List X} → IsPrefix xs ys → length xs ≤ length ys
begins_len {xs = xs} a = omega (arith, ap length a.is, length-append xs a.rest)

no_more : {X : Type 0} (xs : List X) → length xs ≤ 0 → xs ≡ []
no_more [] h = refl
no_more (x ∷ xs) h = absurd (omega arith)

pub begins_all : {X : Type 0} {xs ys : List X} → IsPrefix xs ys → length ys ≤ length xs → xs ≡ ys
begins_all {xs = xs} a h =
    let none = no_more a.rest (omega (arith, ap length a.is, length-append xs a.rest)) in
    sym (append-nil xs) ∙ ap (λ (l : List _). xs ++ l) (sym none) ∙ sym a.is

first : {X : Type 0} (xs more : List X) (x : X) → slice_get (xs ++ more) (length xs) ≡ Some x
    → IsPrefix (x ∷ []) more
first [] [] x e = absurd cc
first [] (y ∷ more) x e =
    let same : y ≡ x = cc in record { rest = more; is = ap (λ (z : _). z ∷ more) same }
first (y ∷ xs) more x e = first xs more x e

pub begins_next : {X : Type 0} (xs ys : List X) (x : X) → IsPrefix xs ys
    → slice_get ys (length xs) ≡ Some x → IsPrefix (xs ++ x ∷ []) ys
begins_next xs ys x a e =
    let f = first xs a.rest x (ap (λ (l : List _). slice_get l (length xs)) (sym a.is) ∙ e) in
    record {
      rest = f.rest;
      is = a.is ∙ ap (λ (l : List _). xs ++ l) f.is
          ∙ sym (append_assoc xs (x ∷ []) f.rest);
    }

pub begins_drop : {X : Type 0} {xs ys : List X} → IsPrefix xs ys → xs ++ drop (length xs) ys ≡ ys
begins_drop {xs =
    xs} a = ap (λ (l : List _). xs ++ drop (length xs) l) a.is
    ∙ ap (λ (l : List _). xs ++ l) (drop-append_seam xs a.rest) ∙ sym a.is

-- the first items of a list that begins another
pub take_same : {X : Type 0} (xs ys : List X) (n : ℕ) → IsPrefix xs ys → n ≤ length xs
    → take n ys ≡ take n xs
take_same xs ys n g le = ap (take n) g.is ∙ take-append-le n xs g.rest le

-- what is read after a write: what was written at its place, and what was there elsewhere
pub get_after_set : {X : Type 0} (xs : List X) (i j : ℕ) (x y : X)
    → slice_get (slice_set xs i x) j ≡ Some y
    → ((j ≡ i) × (y ≡ x)) ⊎ ((j ≢ i) × (slice_get xs j ≡ Some y))
get_after_set [] i j x y e = absurd cc
get_after_set (z ∷ xs) zero zero x y e = inl (refl, cc)
get_after_set (z ∷ xs) zero (suc j) x y e = inr ((λ h. omega arith), e)
get_after_set (z ∷ xs) (suc i) zero x y e = inr ((λ h. omega arith), e)
get_after_set (z ∷ xs) (suc i) (suc j) x y e = elim (get_after_set xs i j x y e) [
  | inl here ↦ inl (ap suc here.0, here.1)
  | inr there ↦ inr
      ((λ h. there.0 (omega arith)), there.1)
]

-- at its place, and off it
pub get_at_set : {X : Type 0} (xs : List X) (i j : ℕ) (x y : X)
    → slice_get (slice_set xs i x) j ≡ Some y → j ≡ i → y ≡ x
get_at_set [] i j x y e h = absurd cc
get_at_set (z ∷ xs) zero zero x y e h = cc
get_at_set (z ∷ xs) zero (suc j) x y e h = absurd (omega arith)
get_at_set (z ∷ xs) (suc i) zero x y e h = absurd (omega arith)
get_at_set (z ∷ xs) (suc i) (suc j) x y e h = get_at_set xs i j x y e (omega arith)

pub get_off_set : {X : Type 0} (xs : List X) (i j : ℕ) (x y : X)
    → slice_get (slice_set xs i x) j ≡ Some y → j ≢ i → slice_get xs j ≡ Some y
get_off_set xs i j x y e apart =
    elim (get_after_set xs i j x y e) [ inl here ↦ absurd (apart here.0) | inr there ↦ there.1 ]

pub get_push : {X : Type 0} (xs : List X) (i : ℕ) (x y : X) → slice_get (xs ++ x ∷ []) i ≡ Some y
    → ((i ≡ length xs) × (y ≡ x)) ⊎ ((i < length xs) × (slice_get xs i ≡ Some y))
get_push [] zero x y e = inl (refl, cc)
get_push [] (suc i) x y e = absurd cc
get_push (z ∷ xs) zero x y e = inr (omega arith, e)
get_push (z ∷ xs) (suc i) x y e =
    elim (get_push xs i x y e) [
      | inl here ↦ inl (let h = here.0 in omega arith, here.1)
      | inr there ↦
          inr (let h = there.0 in omega arith, there.1)
    ]

-- an item written over itself
pub put_same : {X : Type 0} (xs : List X) (i : ℕ) (x : X) → slice_get xs i ≡ Some x
    → slice_set xs i x ≡ xs
put_same [] i x e = refl
put_same (y ∷ ys) zero x e = let same : y ≡ x = cc in ap (λ (z : _). z ∷ ys) (sym same)
put_same (y ∷ ys) (suc i) x e = ap (λ (l : List _). y ∷ l) (put_same ys i x e)

-- the item at an index is got there
pub at_index : {X : Type 0} (xs : List X) (i k : ℕ) (x : X) → i ≡ k
    → i < length xs → x ≡ get_or xs i x
    → slice_get xs k ≡ Some x
at_index xs i k x e lt h = ap (slice_get xs) (sym e) ∙ slice_get_read xs (length xs) i x refl lt h

-- an item that is got is within the list
pub found_within : {X : Type 0} (xs : List X) (i : ℕ) (x : X)
    → Some x ≡ slice_get xs i → i < length xs
found_within [] i x e = absurd cc
found_within (y ∷ ys) zero x e = omega arith
found_within (y ∷ ys) (suc i) x e = let h = found_within ys i x e in omega arith

-- one item is got at one place
pub one_there : {X : Type 0} (o : Option X) (x y : X) → o ≡ Some x → o ≡ Some y → x ≡ y
one_there o x y e f = cc
