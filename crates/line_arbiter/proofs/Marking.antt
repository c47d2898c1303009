-- A bitmap: a mark is set or taken away, and the first from a bit on is found in a word.
use Rattle.std.proofs.Common.{◌≡◌, ◌≢◌, ℕ, zero, suc, ◌+◌, ◌-◌, ◌*◌, ◌/◌, ◌%◌, ◌^◌, ◌<◌, ◌≤◌, Bool, true, false, List, length, get_or, set, sym, ap, subst, refl, ◌∙◌, inl, inr, arith, bit_and, bit_or, w64, get_or-set_same, get_or-set_other}
use Rattle.std.specs.Prelude.{slice_index, nat_eq, not, replicate, if◌then◌else◌}
use Rattle.std.specs.Int.{bit_at, bit_not, trailing_zeros}
use Rattle.std.proofs.lemmas.Bool.{cases_eq, cases_lt}
use Rattle.std.proofs.lemmas.List.{get_or_default}
use Rattle.std.proofs.lemmas.Nat.{shr-shr}
use Rattle.std.proofs.Math.Nat.{div-le_self}
use Rattle.std.proofs.lemmas.Nat.Bits.{bit_at-zero, bit_at-lt, bit_at-trailing_zeros, bit_at_above, bit_at_set_same, bit_at_set_other, bit_at_clear_same, bit_at_clear_other, bit_at_not}
use Rattle.line_arbiter.specs.Marks.{is_set, is_marked}

module _ (marks : List ℕ) (m word : ℕ) (words : length marks ≡ 1024) where
  marked_here : is_marked (set marks (m / 64 % 1024) word) m ≡ is_set word (m % 64)
  marked_here = ap (λ n. is_set n (m % 64))
      (get_or-set_same marks (m / 64 % 1024) word 0 (omega arith))

  -- a word that keeps its other bits keeps the marks of the numbers that have other bits
  marked_others : ((i : ℕ) → i < 64 → i ≢ m % 64 → bit_at word i ≡ bit_at
      (get_or marks (m / 64 % 1024) 0) i)
      → (other : ℕ) → other % 65536 ≢ m % 65536
      → is_marked (set marks (m / 64 % 1024) word) other ≡ is_marked marks other
  marked_others kept other differs =
      let there : m / 64 % 1024 < length marks = omega arith in
      elim (cases_eq (other / 64 % 1024) (m / 64 % 1024)) [
        | inl same ↦
            rw (same, get_or-set_same marks (m / 64 % 1024) word 0 there)
            (ap (λ b. nat_eq b 1) (kept (other % 64) (omega arith)
            (λ index. differs (omega arith))))
        | inr apart ↦
            ap (λ n. is_set n (other % 64)) (get_or-set_other marks (m / 64 % 1024)
            (other / 64 % 1024) word 0 apart)
      ]

module _ (marks : List ℕ) (m word : ℕ) (words : length marks ≡ 1024)
    (read : word ≡ get_or marks (m / 64 % 1024) word) where
  was : word ≡ get_or marks (m / 64 % 1024) 0
  was = read ∙ get_or_default marks (m / 64 % 1024) word 0 (omega arith)

  abbrev set_word : ℕ
  set_word = bit_or word (1 * 2 ^ (m % 64) % 2 ^ 64)

  abbrev cleared_word : ℕ
  cleared_word = bit_and word (bit_not w64 (1 * 2 ^ (m % 64) % 2 ^ 64))

  pub mark_here : is_marked (set marks (m / 64 % 1024) set_word) m ≡ true
  mark_here = marked_here marks m _ words
      ∙ ap (λ b. nat_eq b 1) (bit_at_set_same w64 word (m % 64) (omega arith))

  pub mark_others : (other : ℕ) → other % 65536 ≢ m % 65536
      → is_marked (set marks (m / 64 % 1024) set_word) other ≡ is_marked marks other
  mark_others = marked_others marks m _ words (λ i low differs.
      bit_at_set_other w64 word (m % 64) (omega arith) i differs ∙ ap (λ n. bit_at n i) was)

  pub unmark_here : is_marked (set marks (m / 64 % 1024) cleared_word) m ≡ false
  unmark_here =
      marked_here marks m _ words
      ∙ ap (λ b. nat_eq b 1) (bit_at_clear_same w64 word (m % 64) (omega arith))

  pub unmark_others : (other : ℕ) → other % 65536 ≢ m % 65536
      → is_marked (set marks (m / 64 % 1024) cleared_word) other ≡ is_marked marks other
  unmark_others = marked_others marks m _ words (λ i low differs.
      bit_at_clear_other w64 word (m % 64) (omega arith) i low differs ∙ ap (λ n. bit_at n i) was)

-- the bits of a word that are asked for, as ones
abbrev asked : ℕ → Bool → ℕ
asked word wanted = if wanted then word else bit_not w64 word

asked_bit : (word i : ℕ) (wanted : Bool) → word < 2 ^ 64 → i < 64 → bit_at (asked word wanted) i ≡ 1
    → is_set word i ≡ wanted
asked_bit word i true fits low h = ap (λ b. nat_eq b 1) h
asked_bit word i false fits low h = let no : bit_at word i ≡ 0 =
    omega (arith, bit_at_not w64 word i fits low, bit_at-lt word i) in ap (λ b. nat_eq b 1) no

other_bit : (word i : ℕ) (wanted : Bool) → word < 2 ^ 64 → i < 64 → bit_at (asked word wanted) i ≡ 0
    → is_set word i ≡ not wanted
other_bit word i true fits low h = ap (λ b. nat_eq b 1) h
other_bit word i false fits low h = let yes : bit_at word i ≡ 1 =
    omega (arith, bit_at_not w64 word i fits low, bit_at-lt word i) in ap (λ b. nat_eq b 1) yes

asked_fits : (word : ℕ) (wanted : Bool) → word < 2 ^ 64 → asked word wanted < 2 ^ 64
asked_fits word true fits = fits
asked_fits word false fits = omega arith

-- a bit of a word that was shifted down
shifted_bit : (n k i : ℕ) → bit_at (n / 2 ^ k) i ≡ bit_at n (k + i)
shifted_bit n k i = ap (λ x. x % 2) (shr-shr n k i)

-- where nothing is left above a bit, none from it on is as asked
pub none_left : (word from : ℕ) (wanted : Bool) (left : ℕ) → word < 2 ^ 64
    → left ≡ (if wanted then word else bit_not w64 word) → left / 2 ^ from ≡ 0 → (i : ℕ) → from ≤ i
    → i < 64 → is_set word i ≡ not wanted
none_left word from wanted left fits is none i low high =
    let place : from + (i - from) ≡ i = omega arith in
    other_bit word i wanted fits high (
    ap (λ n. bit_at n i) (sym is) ∙ ap (bit_at left) (sym place)
    ∙ sym (shifted_bit left from (i - from))
    ∙ ap (λ n. bit_at n (i - from)) none ∙ bit_at-zero (i - from))

-- the first that is
pub record IsFirst (word from : ℕ) (wanted : Bool) (found : ℕ) : Type 0 where
  pub to : found ≤ 64
  pub others : (i : ℕ) → from ≤ i → i < found → is_set word i ≡ not wanted
  pub is : found < 64 → is_set word found ≡ wanted

pub first_left : (word from : ℕ) (wanted : Bool) (left : ℕ) → word < 2 ^ 64 → from < 64
    → left ≡ (if wanted then word else bit_not w64 word) → (left / 2 ^ from ≡ 0 → ⊥)
    → IsFirst word from wanted (from + trailing_zeros w64 (left / 2 ^ from))
first_left word from wanted left fits low is some =
    let left_fits : left < 2 ^ 64 = subst (λ n. n < 2 ^ 64) (sym is) (asked_fits word wanted fits)
    in
    let down = div-le_self left (2 ^ from) in
    let lowest = bit_at-trailing_zeros w64 (left / 2 ^ from) (omega arith) (omega arith) in
    let tz = trailing_zeros w64 (left / 2 ^ from) in
    let at : bit_at left (from + tz) ≡ 1 = sym (shifted_bit left from tz) ∙ lowest.1 in
    let inside : from + tz < 64 = elim (cases_lt (from + tz) 64) [
      | inl lt ↦ lt
      | inr le ↦ let no = bit_at_above left 64 (from + tz) left_fits le in absurd (omega arith)
    ] in
    record {
      to = omega arith;
      others = λ i from_is below.
          let place : from + (i - from) ≡ i = omega arith in
          other_bit word i wanted fits (omega arith) (
          ap (λ n. bit_at n i) (sym is) ∙ ap (bit_at left) (sym place)
          ∙ sym (shifted_bit left from (i - from)) ∙ lowest.2 (i - from) (omega arith));
      is = λ lt. asked_bit word (from + tz) wanted fits inside
          (ap (λ n. bit_at n (from + tz)) (sym is) ∙ at);
    }

-- numbers that lie a multiple of 65,536 apart have one bit
pub same_bit : (marks : List ℕ) (m n : ℕ) → m % 65536 ≡ n % 65536
    → is_marked marks m ≡ is_marked marks n
same_bit marks m n same =
    let w : m / 64 % 1024 ≡ n / 64 % 1024 = omega arith in
    let b : m % 64 ≡ n % 64 = omega arith in
    rw (w, b) refl

-- a bitmap of zeros has no mark
pub none_marked : (m : ℕ) → is_marked (replicate 1024 0) m ≡ false
none_marked m =
    ap (λ n. is_set n (m % 64)) (all_zero 1024 (m / 64 % 1024))
    ∙ ap (λ b. nat_eq b 1) (bit_at-zero (m % 64))
  where
    all_zero : (words k : ℕ) → slice_index (replicate words 0) k ≡ 0
    all_zero zero k = refl
    all_zero (suc words) zero = refl
    all_zero (suc words) (suc k) = all_zero words k
