-- The digits of a number, two at a time.
use Rattle.std.proofs.Common.{◌≡◌, ℕ, ◌+◌, ◌/◌, ◌%◌, [], ◌∷◌, refl, arith}
use Rattle.std.proofs.lemmas.Fmt.{decimal_digit}
use Rattle.best_rows.specs.Times.{nine_digits}

-- the last nine digits, of which the last eight are four pairs
pub nine_by_pairs : (n p e : ℕ) → p ≡ n % 1000000000 → e ≡ p % 100000000
    → (48 + p / 100000000)
    ∷ (48 + e / 10000 / 100 / 10) ∷ (48 + e / 10000 / 100 % 10)
    ∷ (48 + e / 10000 % 100 / 10) ∷ (48 + e / 10000 % 100 % 10)
    ∷ (48 + e % 10000 / 100 / 10) ∷ (48 + e % 10000 / 100 % 10)
    ∷ (48 + e % 10000 % 100 / 10) ∷ (48 + e % 10000 % 100 % 10) ∷ [] ≡ nine_digits n
unfolding nine_digits
nine_by_pairs n p e is rest =
    let a : p / 100000000 ≡ n / 100000000 % 10 = omega arith in
    let b : e / 10000 / 100 / 10 ≡ n / 10000000 % 10 = omega arith in
    let c : e / 10000 / 100 % 10 ≡ n / 1000000 % 10 = omega arith in
    let d : e / 10000 % 100 / 10 ≡ n / 100000 % 10 = omega arith in
    let f : e / 10000 % 100 % 10 ≡ n / 10000 % 10 = omega arith in
    let g : e % 10000 / 100 / 10 ≡ n / 1000 % 10 = omega arith in
    let h : e % 10000 / 100 % 10 ≡ n / 100 % 10 = omega arith in
    let i : e % 10000 % 100 / 10 ≡ n / 10 % 10 = omega arith in
    let j : e % 10000 % 100 % 10 ≡ n / 1 % 10 = omega arith in
    rw (
      a,
      b,
      c,
      d,
      f,
      g,
      h,
      i,
      j,
      decimal_digit (n / 100000000 % 10) (omega arith),
      decimal_digit (n / 10000000 % 10) (omega arith),
      decimal_digit (n / 1000000 % 10) (omega arith),
      decimal_digit (n / 100000 % 10) (omega arith),
      decimal_digit (n / 10000 % 10) (omega arith),
      decimal_digit (n / 1000 % 10) (omega arith),
      decimal_digit (n / 100 % 10) (omega arith),
      decimal_digit (n / 10 % 10) (omega arith),
      decimal_digit (n / 1 % 10) (omega arith),
    ) refl
