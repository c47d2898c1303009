-- Counts over a range of numbers.
use mir.Val.{bool_byte}
use Rattle.std.proofs.Common.{◌≡◌, ℕ, zero, suc, ◌+◌, ◌-◌, ◌<◌, ◌≤◌, Bool, true, false, cond, List, [], ◌∷◌, length, refl, ap, ◌∙◌, arith}
use Rattle.std.specs.Prelude.{count_by, slice_get}
use Rattle.std.specs.List.{range_with_len}
use Rattle.std.specs.Option.{option_map_or}
use Rattle.std.proofs.lemmas.List.Sums.{sum_by-cons}

abbrev pub one_if : Bool → ℕ
one_if b = cond b 1 0

pub count_first : {X : Type 0} (q : X → Bool) (x : X) (xs : List X)
    → count_by q (x ∷ xs) ≡ one_if (q x) + count_by q xs
count_first q x xs = sum_by-cons (λ y. one_if (q y)) x xs

-- where what the first test counts at each number is what the other two count, so it is over the
-- range
pub count_sum : (q r t : ℕ → Bool) (a n : ℕ)
    → ((m : ℕ) → a ≤ m → m < a + n → one_if (q m) ≡ one_if (r m) + one_if (t m))
    → count_by q (range_with_len a n) ≡ count_by r (range_with_len a n) + count_by t
    (range_with_len a n)
count_sum q r t a zero h = refl
count_sum q r t a (suc n) h =
    let here : one_if (q a) ≡ one_if (r a) + one_if (t a) = h a (omega arith) (omega arith) in
    let rest = count_sum q r t (a + 1) n (λ m low high. h m (omega arith) (omega arith)) in
    omega (
      arith,
      count_first q a (range_with_len (a + 1) n),
      count_first r a
          (range_with_len (a + 1) n),
      count_first t a (range_with_len (a + 1) n),
    )

pub count_same : (q r : ℕ → Bool) (a n : ℕ) → ((m : ℕ) → a ≤ m → m < a + n → q m ≡ r m)
    → count_by q (range_with_len a n) ≡ count_by r (range_with_len a n)
count_same q r a zero h = refl
count_same q r a (suc n) h =
    let here : one_if (q a) ≡ one_if (r a) = ap one_if (h a (omega arith) (omega arith)) in
    let rest = count_same q r (a + 1) n (λ m low high. h m (omega arith) (omega arith)) in
    omega (
      arith,
      count_first q a (range_with_len (a + 1) n),
      count_first r a
          (range_with_len (a + 1) n),
    )

pub count_none : (q : ℕ → Bool) (a n : ℕ) → ((m : ℕ) → a ≤ m → m < a + n → q m ≡ false)
    → count_by q (range_with_len a n) ≡ 0
count_none q a zero h = refl
count_none q a (suc n) h =
    let here : one_if (q a) ≡ 0 = ap one_if (h a (omega arith) (omega arith)) in
    let rest = count_none q (a + 1) n (λ m low high. h m (omega arith) (omega arith)) in
    omega (arith, count_first q a (range_with_len (a + 1) n))

-- a range in two parts
pub count_split : (q : ℕ → Bool) (a n k : ℕ) → count_by q (range_with_len a (n + k)) ≡ count_by q
    (range_with_len a n) + count_by q (range_with_len (a + n) k)
count_split q a zero k =
    let start : a ≡ a + 0 = omega arith in
    let len : 0 + k ≡ k = omega arith in
    let same : count_by q (range_with_len a (0 + k)) ≡ count_by q (range_with_len (a + 0) k) =
    ap (λ (l : ℕ). count_by q (range_with_len a l)) len
    ∙ ap (λ (b : ℕ). count_by q (range_with_len b k)) start in
    omega arith
count_split q a (suc n) k =
    let len : suc n + k ≡ suc (n + k) = omega arith in
    let start : a + 1 + n ≡ a + suc n = omega arith in
    let whole : count_by q (range_with_len a (suc n + k)) ≡ count_by q
    (range_with_len a (suc (n + k))) = ap (λ (l : ℕ). count_by q (range_with_len a l)) len in
    let after : count_by q (range_with_len (a + 1 + n) k) ≡ count_by q (range_with_len (a + suc n)
    k) = ap (λ (b : ℕ). count_by q (range_with_len b k)) start in
    let rest = count_split q (a + 1) n k in
    omega (
      arith,
      count_first q a (range_with_len (a + 1) (n + k)),
      count_first q a
          (range_with_len (a + 1) n),
    )

-- from the number on at which the test fails, a longer range counts no more
pub count_past : (q : ℕ → Bool) (a n most : ℕ) → n ≤ most → ((m : ℕ) → a + n ≤ m → q m ≡ false)
    → count_by q (range_with_len a n) ≡ count_by q (range_with_len a most)
count_past q a n most within h =
    let len : n + (most - n) ≡ most = omega arith in
    let whole : count_by q (range_with_len a (n + (most - n))) ≡ count_by q
    (range_with_len a most) = ap (λ (l : ℕ). count_by q (range_with_len a l)) len in
    omega (
      arith,
      count_split q a n (most - n),
      count_none q (a + n) (most - n)
          (λ m low high. h m low),
    )

-- a count over a list is one over its elements' numbers, from the first one's on
pub count_numbers : {X : Type 0} (p : X → Bool) (q : ℕ → Bool) (xs : List X) (a : ℕ)
    → ((k : ℕ) → k < length xs → option_map_or p (slice_get xs k) false ≡ q (a + k))
    → count_by p xs ≡ count_by q (range_with_len a (length xs))
count_numbers p q [] a h = refl
count_numbers p q (x ∷ xs) a h =
    let here : one_if (p x) ≡ one_if (q a) = ap one_if (h 0 (omega arith)
    ∙ ap q (let e : a + 0 ≡ a = omega arith in e)) in
    let rest = count_numbers p q xs (a + 1) (λ k within. h (suc k) (omega arith)
    ∙ ap q (let e : a + suc k ≡ a + 1 + k = omega arith in e)) in
    omega (arith, count_first p x xs, count_first q a (range_with_len (a + 1) (length xs)))

-- a range with one more number
pub count_more : (q : ℕ → Bool) (a n : ℕ) → count_by q (range_with_len a (n + 1)) ≡ count_by q
    (range_with_len a n) + one_if (q (a + n))
count_more q a n = let one = count_first q (a + n) [] in omega (arith, count_split q a n 1)

-- a truth value as a byte
pub byte_is : (b : Bool) → bool_byte b ≡ one_if b
byte_is true = refl
byte_is false = refl
