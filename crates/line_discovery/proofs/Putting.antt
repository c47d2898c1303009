-- Texts put one after another.
use Rattle.std.proofs.Common.{◌≡◌, ℕ, ◌+◌, ◌<◌, cond, List, [], ◌∷◌, ◌++◌, append_assoc, append-nil, sym, ap, ◌∙◌, flat_map, get_or, length, take, Result, Ok, Err}
use Rattle.std.specs.Prelude.{OnOk, is_ok}
use Rattle.std.proofs.lemmas.Grind.{flat_map-append, take_at_read}

pub put_last : {X T E : Type 0} (r : Result T E) (old new a : List X)
    → new ≡ cond (is_ok r) (old ++ a) old → OnOk r (new ≡ old ++ a)
put_last (Ok x) old new a e = e
put_last (Err e) old new a is = tt

pub put_two : {X T E : Type 0} (r : Result T E) (old mid new a b : List X) → mid ≡ old ++ a
    → OnOk r (new ≡ mid ++ b) → OnOk r (new ≡ old ++ (a ++ b))
put_two {X} (Ok x) old mid new a b first second = second ∙ ap (λ (t : List X). t ++ b) first
    ∙ append_assoc old a b
put_two (Err e) old mid new a b first second = tt

-- the text of one element more
pub row_put : {X : Type 0} (f : X → List ℕ) (xs : List X) (i : ℕ) (d : X) (old mid new : List ℕ)
    → i < length xs → mid ≡ old ++ flat_map f (take i xs) → new ≡ mid ++ f (get_or xs i d)
    → new ≡ old ++ flat_map f (take (i + 1) xs)
row_put f xs i d old mid new less before more =
    let x = get_or xs i d in
    let front = flat_map f (take i xs) in
    more ∙ ap (λ (t : List ℕ). t ++ f x) before ∙ append_assoc old front (f x)
    ∙ ap (λ (t : List ℕ). old ++ t) (sym (ap (flat_map f) (take_at_read xs i d less).1
    ∙ flat_map-append f (take i xs) (x ∷ [])
    ∙ ap (λ (t : List ℕ). front ++ t) (append-nil (f x))))
