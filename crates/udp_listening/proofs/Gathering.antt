-- What each of a list gives, gathered one by one.
use Rattle.std.proofs.Common.{◌≡◌, ◌∙◌, ℕ, ◌+◌, ◌<◌, ◌≤◌, suc, zero, List, [], ◌∷◌, ◌++◌, Some, length, take, get_or, ap, sym, arith, append-nil, append_assoc}
use Rattle.std.specs.Prelude.{flat_map, slice_get}
use Rattle.std.proofs.lemmas.List.{take_all}
use Rattle.std.proofs.lemmas.Option.{none-some, same_Some, slice_get-get_or}

one_gathered : {A B : Type 0} (f : A → List B) (xs : List A) (i : ℕ) (x : A)
    → slice_get xs i ≡ Some x → flat_map f (take (suc i) xs) ≡ flat_map f (take i xs) ++ f x
one_gathered f [] i x e = absurd (none-some x e)
one_gathered f (y ∷ xs) zero x e = append-nil (f y) ∙ ap f (same_Some y x e)
one_gathered f (y ∷ xs) (suc i) x e = ap (λ rest. f y ++ rest) (one_gathered f xs i x e)
    ∙ sym (append_assoc (f y) (flat_map f (take i xs)) (f x))

-- what the next one gives was appended
pub gathered_more : {A B : Type 0} (f : A → List B) (xs : List A) (i : ℕ) (x : A)
    (old new : List B) → i < length xs → x ≡ get_or xs i x → old ≡ flat_map f (take i xs)
    → new ≡ old ++ f x → new ≡ flat_map f (take (i + 1) xs)
gathered_more f xs i x old new below is before more =
    let next : suc i ≡ i + 1 = omega arith in
    more ∙ ap (λ l. l ++ f x) before
    ∙ sym (one_gathered f xs i x (slice_get-get_or xs i x below ∙ ap Some (sym is)))
    ∙ ap (λ (n : ℕ). flat_map f (take n xs)) next

-- there is no next one
pub gathered_all : {A B : Type 0} (f : A → List B) (xs : List A) (i : ℕ) (all : List B)
    → length xs ≤ i → all ≡ flat_map f (take i xs) → all ≡ flat_map f xs
gathered_all f xs i all past is = is ∙ ap (flat_map f) (take_all i xs past)
