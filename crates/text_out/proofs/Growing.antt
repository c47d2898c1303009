-- A text that grows by parts.
use Rattle.std.proofs.Common.{◌≡◌, ◌∙◌, ℕ, ◌+◌, ◌<◌, ◌≤◌, List, ◌++◌, ap, arith, flat_map, get_or, length, length-append, take}
use Rattle.std.proofs.lemmas.List.Folds.{length-flat_map-take}
use Rattle.std.specs.Prelude.{Result, Ok, Err, OnErr}

pub on_err_any : {T E P : Type 0} (r : Result T E) → P → OnErr r P
on_err_any (Ok x) p = tt
on_err_any (Err e) p = p

-- Where there is no room for one more part there was none for all of them.
pub no_room : {X : Type 0} (f : X → List ℕ) (xs : List X) (i : ℕ) (d : X) (old mid : List ℕ)
    (size more cap later : ℕ) → i < length xs → size ≡ length old → more ≡ length mid
    → mid ≡ old ++ flat_map f (take i xs) → cap ≤ later → later < more + length (f (get_or xs i d))
    → cap < size + length (flat_map f xs)
no_room f xs i d old mid size more cap later here old-size mid-size grown kept full =
    let fits = length-flat_map-take f xs i d here in
    let parts = ap length grown ∙ length-append old (flat_map f (take i xs)) in
    omega (arith, fits, parts, old-size, mid-size, kept, full)
