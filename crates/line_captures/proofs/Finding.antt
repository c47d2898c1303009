-- The first of a list that has a property.
use Rattle.std.proofs.Common.{◌≡◌, ℕ, ◌+◌, ◌<◌, inl, inr, List, Some, length, get_or, refl, ap, subst, ◌∙◌, arith}
use Rattle.std.specs.Prelude.{slice_get}
use Rattle.std.proofs.lemmas.Bool.{cases_lt}
use Rattle.std.proofs.lemmas.Option.{same_Some, slice_get_read}

-- one place more that hasn't the property
pub none_more : {X : Type 0} (T : X → Type 0) (xs : List X) (n : ℕ) (x : X) → n < length xs
    → x ≡ get_or xs n x → ((k : ℕ) (y : X) → k < n → Some y ≡ slice_get xs k → T y → ⊥)
    → (T x → ⊥) → (k : ℕ) (y : X) → k < n + 1 → Some y ≡ slice_get xs k → T y → ⊥
none_more {X} T xs n x few at none unlike k y less there t = elim (cases_lt k n) [
  | inl before ↦ none k y before there t
  | inr high ↦
      let same : k ≡ n = omega (arith, less, high) in
      let read = slice_get_read xs (length xs) n x refl few at in
      let one : y ≡ x = same_Some y x (there ∙ ap (slice_get xs) same ∙ read) in
      unlike (subst T one t)
]
