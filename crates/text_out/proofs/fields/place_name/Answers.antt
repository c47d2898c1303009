use Rattle.std.proofs.Common.{◌≡◌, ℕ, zero, suc, List, [], ◌∷◌, take, length, refl, ap}
use Rattle.text_out.specs.laws.Places.{placed_as}
use Rattle.text_out.proofs.fields.place_name.Goals as goal

front_of_front : (n : ℕ) (xs : List ℕ) → take (length (take n xs)) xs ≡ take n xs
front_of_front zero xs = refl
front_of_front (suc n) [] = refl
front_of_front (suc n) (x ∷ xs) = ap (λ (ys : List ℕ). x ∷ ys) (front_of_front n xs)

pub returns-clause-placed : goal.returns-clause-placed
returns-clause-placed c =
    placed_as _ _ _ _ _ _ c.place_word.ensures (rw (c.name-len.ensures.value, c.field.ensures.value)
    (front_of_front _ c.args.symbol))
