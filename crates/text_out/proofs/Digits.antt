-- The digits of a number, two at a time.
use Rattle.std.proofs.Common.{◌≡◌, ap, sym, subst, ◌∙◌, ℕ, zero, suc, ◌+◌, ◌-◌, ◌/◌, ◌%◌, ◌^◌, ◌<◌, ◌≤◌, Bool, true, false, ◌&&◌, T, refl, List, [], ◌∷◌, ◌++◌, length, take, get_or, inl, inr, arith, eq-zero-or-pos, append_assoc}
use Rattle.std.proofs.lemmas.Fmt.{decimal_digit, decimal_step}
use Rattle.std.specs.Fmt.{decimal}
use Rattle.std.specs.Str.{bytes_eq}
use Rattle.std.proofs.lemmas.Slice.Eq.{bytes_eq-Decides}
use lib.Ieee.Fits.{and_l, and_r}
use Rattle.text_out.specs.declared.digit_tables.TheConstants.{FRONTS, PAIRS}

-- two digits, of which the first may be 0
abbrev pub pair : ℕ → List ℕ
pair n = (48 + n / 10) ∷ (48 + n % 10) ∷ []

-- whether it holds of each number below
abbrev holds_below : (ℕ → Bool) → ℕ → Bool
holds_below f zero = true
holds_below f (suc p) = f p && holds_below f p

is_true : (b : Bool) → T b → b ≡ true
is_true true t = refl
is_true false t = absurd t

below : (f : ℕ → Bool) (n p : ℕ) → T (holds_below f n) → p < n → f p ≡ true
below f zero p t h = absurd (omega arith)
below f (suc n) p t h =
    elim (eq-zero-or-pos (n - p)) [
      | inl z ↦ let e : p ≡ n = omega arith in rw e (is_true _ (and_l _ (holds_below f n) t))
      | inr g ↦ below f n p (and_r _ (holds_below f n) t) (omega arith)
    ]

-- the table of pairs has them
pub pairs_at : (p : ℕ) → p < 100 → get_or PAIRS p [] ≡ pair p
pairs_at p h = (bytes_eq-Decides (get_or PAIRS p []) (pair p)).0
    (below (λ (n : ℕ). bytes_eq (get_or PAIRS n []) (pair n)) 100 p tt h)

abbrev is_front : ℕ → List ℕ → Bool
is_front n bytes = bytes_eq (take (length bytes) (get_or FRONTS n [])) bytes

stands : (n : ℕ) (bytes : List ℕ) → is_front n bytes ≡ true
    → take (length bytes) (get_or FRONTS n []) ≡ bytes
stands n bytes e = (bytes_eq-Decides (take (length bytes) (get_or FRONTS n [])) bytes).0 e

pub decimal_two : (n : ℕ) → 10 ≤ n → n < 100 → decimal n ≡ pair n
decimal_two n low high = rw (decimal_step n low (omega arith), decimal_digit (n / 10) (omega arith))

-- one pair more
pub decimal_pair : (n : ℕ) → 100 ≤ n → n < 2 ^ 64 → decimal n ≡ decimal (n / 100) ++ pair (n % 100)
decimal_pair n low high =
    let a : n / 10 / 10 ≡ n / 100 = omega arith in
    let b : n / 10 % 10 ≡ n % 100 / 10 = omega arith in
    let c : n % 10 ≡ n % 100 % 10 = omega arith in
    rw (
      decimal_step n (omega arith) high,
      decimal_step (n / 10) (omega arith) (omega arith),
      append_assoc,
      a,
      b,
      ← c,
    )

decimal_three : (n : ℕ) → 100 ≤ n → n < 1000 → decimal n ≡ (48 + n / 100) ∷ pair (n % 100)
decimal_three n low high =
    decimal_pair n low (omega arith) ∙ ap (λ (front : List ℕ). front ++ pair (n % 100))
    (decimal_digit (n / 100) (omega arith))

-- how many digits a number has
pub count_one : (n : ℕ) → n < 10 → length (decimal n) ≡ 1
count_one n h = ap (λ (digits : List ℕ). length digits) (decimal_digit n h)

pub count_two : (n : ℕ) → 10 ≤ n → n < 100 → length (decimal n) ≡ 2
count_two n low high = ap (λ (digits : List ℕ). length digits) (decimal_two n low high)

pub count_three : (n : ℕ) → 100 ≤ n → n < 1000 → length (decimal n) ≡ 3
count_three n low high = ap (λ (digits : List ℕ). length digits) (decimal_three n low high)

-- the table of fronts has the digits of each number
front_one : (n : ℕ) → n < 10 → take 1 (get_or FRONTS n []) ≡ (48 + n) ∷ []
front_one n h = stands n ((48 + n) ∷ []) (below (λ (k : ℕ). is_front k ((48 + k) ∷ [])) 10 n tt h)

front_two : (k : ℕ) → k < 90 → take 2 (get_or FRONTS (k + 10) []) ≡ pair (k + 10)
front_two k h = stands (k + 10) (pair (k + 10))
    (below (λ (m : ℕ). is_front (m + 10) (pair (m + 10))) 90 k tt h)

abbrev three : ℕ → List ℕ
three n = (48 + n / 100) ∷ pair (n % 100)

front_three : (k : ℕ) → k < 900 → take 3 (get_or FRONTS (k + 100) []) ≡ three (k + 100)
front_three k h = stands (k + 100) (three (k + 100))
    (below (λ (m : ℕ). is_front (m + 100) (three (m + 100))) 900 k tt h)

as_digits : (n : ℕ) (digits : List ℕ) → decimal n ≡ digits
    → take (length digits) (get_or FRONTS n []) ≡ digits
    → take (length (decimal n)) (get_or FRONTS n []) ≡ decimal n
as_digits n digits d front = ap (λ (bytes : List ℕ). take (length bytes) (get_or FRONTS n [])) d
    ∙ front ∙ sym d

pub front_at : (n : ℕ) → n < 1000 → take (length (decimal n)) (get_or FRONTS n []) ≡ decimal n
front_at n h =
    elim (eq-zero-or-pos (10 - n)) [
      | inr g ↦ as_digits n ((48 + n) ∷ []) (decimal_digit n (omega arith))
          (front_one n (omega arith))
      | inl z ↦ elim (eq-zero-or-pos (100 - n)) [
        | inr g ↦
            let e : n - 10 + 10 ≡ n = omega arith in
            as_digits n (pair n) (decimal_two n (omega arith) (omega arith))
            (subst (λ (m : ℕ). take 2 (get_or FRONTS m []) ≡ pair m) e
            (front_two (n - 10) (omega arith)))
        | inl y ↦
            let e : n - 100 + 100 ≡ n = omega arith in
            as_digits n (three n) (decimal_three n (omega arith) h)
            (subst (λ (m : ℕ). take 3 (get_or FRONTS m []) ≡ three m) e
            (front_three (n - 100) (omega arith)))
      ]
    ]

-- two pairs more
pub decimal_four : (n : ℕ) → 10000 ≤ n → n < 2 ^ 64 → decimal n ≡ decimal (n / 10000)
    ++ (pair (n % 10000 / 100) ++ pair (n % 10000 % 100))
decimal_four n low high =
    let a : n / 100 / 100 ≡ n / 10000 = omega arith in
    let b : n / 100 % 100 ≡ n % 10000 / 100 = omega arith in
    let c : n % 10000 % 100 ≡ n % 100 = omega arith in
    rw (
      decimal_pair n (omega arith) high,
      decimal_pair (n / 100) (omega arith)
          (omega arith),
      append_assoc,
      a,
      b,
      c,
    )

digit_as : (m n : ℕ) → m ≡ n → n < 10 → (48 + m) ∷ [] ≡ decimal n
digit_as m n e h = ap (λ (k : ℕ). (48 + k) ∷ []) e ∙ sym (decimal_digit n h)

joined : (t u a b c d : List ℕ) → t ++ (u ++ (a ++ (b ++ (c ++ d)))) ≡ t ++ u ++ a ++ b ++ c ++ d
joined t u a b c d =
    sym (append_assoc t u (a ++ (b ++ (c ++ d)))) ∙ sym (append_assoc (t ++ u) a (b ++ (c ++ d)))
    ∙ sym (append_assoc (t ++ u ++ a) b (c ++ d)) ∙ sym (append_assoc (t ++ u ++ a ++ b) c d)

-- a price after its dollars: a point, and two pairs for the four digits
pub price_digits : (dollars : List ℕ) (p : ℕ) → dollars
    ++ (46 ∷ [] ++ (pair (p % 10000 / 100) ++ pair (p % 10000 % 100)))
    ≡ dollars ++ (46 ∷ []) ++ decimal (p / 1000 % 10) ++ decimal (p / 100 % 10)
    ++ decimal (p / 10 % 10) ++ decimal (p % 10)
price_digits dollars p =
    let a = digit_as (p % 10000 / 100 / 10) (p / 1000 % 10) (omega arith) (omega arith) in
    let b = digit_as (p % 10000 / 100 % 10) (p / 100 % 10) (omega arith) (omega arith) in
    let c = digit_as (p % 10000 % 100 / 10) (p / 10 % 10) (omega arith) (omega arith) in
    let d = digit_as (p % 10000 % 100 % 10) (p % 10) (omega arith) (omega arith) in
    let B : List ℕ = (48 + p % 10000 / 100 % 10) ∷ [] in
    let C : List ℕ = (48 + p % 10000 % 100 / 10) ∷ [] in
    let D : List ℕ = (48 + p % 10000 % 100 % 10) ∷ [] in
    ap (λ (t : List ℕ). dollars ++ (46 ∷ [] ++ (t ++ (B ++ (C ++ D))))) a
    ∙ ap (λ (t : List ℕ). dollars ++ (46 ∷ [] ++ (decimal (p / 1000 % 10) ++ (t ++ (C ++ D))))) b
    ∙ ap (λ (t : List ℕ). dollars
    ++ (46 ∷ [] ++ (decimal (p / 1000 % 10) ++ (decimal (p / 100 % 10) ++ (t ++ D))))) c
    ∙ ap (λ (t : List ℕ). dollars
    ++ (46 ∷ [] ++ (decimal (p / 1000 % 10) ++ (decimal (p / 100 % 10)
    ++ (decimal (p / 10 % 10) ++ t))))) d
    ∙ joined dollars (46 ∷ []) (decimal (p / 1000 % 10)) (decimal (p / 100 % 10))
    (decimal (p / 10 % 10)) (decimal (p % 10))
