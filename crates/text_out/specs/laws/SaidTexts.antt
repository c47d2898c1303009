-- Texts on standard error, one after the other.
use Rattle.std.proofs.Common.{◌≡◌, ℕ, zero, suc, ◌+◌, ◌≤◌, List, [], ◌∷◌, ◌++◌, length, drop, flat_map, refl, sym, subst, arith, Some, add-one}
use Rattle.std.specs.Prelude.{slice_get}
use Rattle.text_out.specs.Devices.{Writing}
use Rattle.text_out.specs.StandardError.{Says, SaysEach}

-- texts after texts
pub says_each : {S : Type 0} (w : Writing S) (xs ys : List (List ℕ)) (s t u : S)
    → SaysEach w xs s t → SaysEach w ys t u → SaysEach w (xs ++ ys) s u
says_each {S} w [] ys s t u a b = subst (λ (x : S). SaysEach w ys x u) a b
says_each {S} w (x ∷ xs) ys s t u a b = (a.0, a.1, says_each w xs ys a.0 t u a.2 b)

-- one text
pub says_one : {S : Type 0} (w : Writing S) (x : List ℕ) (s t : S)
    → Says w x s t → SaysEach w (x ∷ []) s t
says_one w x s t a = (t, a, refl)

-- what is left of a list from a place on
pub rest_at : {X : Type 0} (xs : List X) (n : ℕ) (x : X) → slice_get xs n ≡ Some x
    → drop n xs ≡ x ∷ drop (n + 1) xs
rest_at [] n x e = absurd cc
rest_at (y ∷ ys) zero x e = cc
rest_at (y ∷ ys) (suc n) x e = rw add-one (rw add-one at (rest_at ys n x e))

pub no_rest : {X : Type 0} (xs : List X) (n : ℕ) → length xs ≤ n → drop n xs ≡ []
no_rest [] zero few = refl
no_rest [] (suc n) few = refl
no_rest (x ∷ xs) zero few = absurd (omega (arith, few))
no_rest (x ∷ xs) (suc n) few = no_rest xs n (omega (arith, few))

-- the texts of one more thing
pub texts_more : {S X : Type 0} (w : Writing S) (f : X → List (List ℕ))
    (xs : List X) (n : ℕ) (x : X)
    (s t u : S) → slice_get xs n ≡ Some x → SaysEach w (f x) s t
    → SaysEach w (flat_map f (drop (n + 1) xs)) t u → SaysEach w (flat_map f (drop n xs)) s u
texts_more {S} {X} w f xs n x s t u here says rest =
    subst (λ (left : List X). SaysEach w (flat_map f left) s u) (sym (rest_at xs n x here))
    (says_each w (f x) (flat_map f (drop (n + 1) xs)) s t u says rest)

pub texts_done : {S X : Type 0} (w : Writing S) (f : X → List (List ℕ))
    (xs : List X) (n : ℕ) (s : S)
    → length xs ≤ n → SaysEach w (flat_map f (drop n xs)) s s
texts_done {S} {X} w f xs n s many =
    subst (λ (left : List X). SaysEach w (flat_map f left) s s) (sym (no_rest xs n many)) refl

-- Once the texts of the things from a place on are written, those of all are.
abbrev pub SaysRest : {S X : Type 0} (w : Writing S) (f : X → List (List ℕ)) (xs : List X) (n : ℕ)
    (first s : S) → Type 0
SaysRest {S} w f xs n first s =
    (t : S) → SaysEach w (flat_map f (drop n xs)) s t → SaysEach w (flat_map f xs) first t
