-- The places of durations among the counts.
use Rattle.std.proofs.Common.{◌≡◌, ℕ, zero, suc, ◌+◌, ◌-◌, ◌*◌, ◌/◌, ◌%◌, ◌^◌, ◌<◌, ◌≤◌, inl, inr, refl, sym, ap, subst, ◌∙◌, arith}
use Rattle.std.specs.Prelude.{min, nat_lt}
use lib.Count.{count_leading_zeros}
use Rattle.std.proofs.Math.Nat.{add-mul}
use Rattle.std.proofs.lemmas.Bool.{cases_eq, cases_lt, cases_order, cond-true, cond-false, le-ltb, lt-ltb}
use Rattle.std.proofs.lemmas.Nat.{div-add-mod', div_below, le-div, leading_top, mod_below, mul-le, one_shl, pow-add, pow_below, pow_pos}
use Rattle.replay_reports.specs.times.Places.{IsAt, first_at, last_at, step_at}

-- ---- one place and the next

first_small : (place : ℕ) → place < 16 → first_at place ≡ place
first_small place small = cond-true (nat_lt place 16) _ _ (lt-ltb place 16 small)

first_large : (place : ℕ) → 16 ≤ place → first_at place ≡ (16 + place % 16) * 2 ^ (place / 16 - 1)
first_large place large = cond-false (nat_lt place 16) _ _ (le-ltb place 16 large)

step_small : (place : ℕ) → place < 16 → step_at place ≡ 1
step_small place small = cond-true (nat_lt place 16) _ _ (lt-ltb place 16 small)

step_large : (place : ℕ) → 16 ≤ place → step_at place ≡ 2 ^ (place / 16 - 1)
step_large place large = cond-false (nat_lt place 16) _ _ (le-ltb place 16 large)

pub step_some : (place : ℕ) → 0 < step_at place
step_some place = elim (cases_lt place 16) [
  | inl small ↦ let step = step_small place small in omega (arith, step)
  | inr large ↦ let step = step_large place large in let some = pow_pos (place / 16 - 1)
      in omega (arith, step, some)
]

one_part : (part power : ℕ) → (16 + (part + 1)) * power ≡ (16 + part) * power + power
one_part part power =
    let same : 16 + (part + 1) ≡ (16 + part) + 1 = omega arith in
    let sum = add-mul (16 + part) 1 power in
    let one : 1 * power ≡ power = omega arith in
    ap (λ (n : ℕ). n * power) same ∙ sum ∙ ap (λ (n : ℕ). (16 + part) * power + n) one

last_part : (shift : ℕ) → (16 + 0) * 2 ^ (shift + 1) ≡ (16 + 15) * 2 ^ shift + 2 ^ shift
last_part shift = let twice : 2 ^ (shift + 1) ≡ 2 ^ shift * 2 = pow-add 2 shift 1
    in omega (arith, twice)

next_large : (place : ℕ) → 16 ≤ place → first_at (place + 1) ≡ first_at place + step_at place
next_large place large =
    let this = first_large place large in
    let step = step_large place large in
    let next = first_large (place + 1) (omega (arith, large)) in
    elim (cases_lt (place % 16) 15) [
      | inl less ↦
          let power : (place + 1) / 16 ≡ place / 16 = omega (arith, less) in
          let part : (place + 1) % 16 ≡ place % 16 + 1 = omega (arith, less) in
          next ∙ ap (λ (n : ℕ). (16 + n) * 2 ^ ((place + 1) / 16 - 1)) part
          ∙ ap (λ (n : ℕ). (16 + (place % 16 + 1)) * 2 ^ (n - 1)) power
          ∙ one_part (place % 16) (2 ^ (place / 16 - 1))
          ∙ sym (ap (λ (n : ℕ). n + step_at place) this
          ∙ ap (λ (n : ℕ). (16 + place % 16) * 2 ^ (place / 16 - 1) + n) step)
      | inr more ↦
          let power : (place + 1) / 16 - 1 ≡ (place / 16 - 1) + 1 = omega (arith, more, large) in
          let none : (place + 1) % 16 ≡ 0 = omega (arith, more) in
          let all : place % 16 ≡ 15 = omega (arith, more) in
          next ∙ ap (λ (n : ℕ). (16 + n) * 2 ^ ((place + 1) / 16 - 1)) none
          ∙ ap (λ (n : ℕ). (16 + 0) * 2 ^ n) power ∙ last_part (place / 16 - 1)
          ∙ sym (ap (λ (n : ℕ). n + step_at place) (this
          ∙ ap (λ (n : ℕ). (16 + n) * 2 ^ (place / 16 - 1)) all)
          ∙ ap (λ (n : ℕ). (16 + 15) * 2 ^ (place / 16 - 1) + n) step)
    ]

-- the next place begins where this one ends
pub next_first : (place : ℕ) → first_at (place + 1) ≡ first_at place + step_at place
next_first place = elim (cases_lt place 15) [
  | inl small ↦
      let this = first_small place (omega (arith, small)) in
      let next = first_small (place + 1) (omega (arith, small)) in
      let step = step_small place (omega (arith, small)) in
      omega (arith, this, next, step)
  | inr large ↦ elim (cases_eq place 15) [
    | inl is ↦ subst (λ (k : ℕ). first_at (k + 1) ≡ first_at k + step_at k) (sym is) refl
    | inr other ↦ elim (cases_lt place 16) [
      | inl small ↦ absurd (other (omega (arith, small, large)))
      | inr more ↦ next_large place more
    ]
  ]
]

first_rises : (place more : ℕ) → first_at place ≤ first_at (place + more)
first_rises place zero = let same : place ≡ place + 0 = omega arith
    in subst (λ (k : ℕ). first_at place ≤ first_at k) same (omega arith)
first_rises place (suc more) =
    let before = first_rises place more in
    let next = next_first (place + more) in
    let is : (place + more) + 1 ≡ place + suc more = omega arith in
    subst (λ (k : ℕ). first_at place ≤ first_at k) is (omega (arith, before, next))

-- a later place is of longer durations alone
apart : (place later : ℕ) → place < later → last_at place < first_at later
apart place later less =
    let rises = first_rises (place + 1) (later - (place + 1)) in
    let is : (place + 1) + (later - (place + 1)) ≡ later = omega (arith, less) in
    let least : first_at (place + 1) ≤ first_at later =
    subst (λ (k : ℕ). first_at (place + 1) ≤ first_at k) is rises in
    let next = next_first place in
    let some = step_some place in
    omega (arith, least, next, some)

-- a duration has one place
pub one_place : (duration place other : ℕ) → IsAt duration place
    → IsAt duration other → place ≡ other
one_place duration place other a b = elim (cases_order place other) [
  | inl same ↦ same
  | inr (inl less) ↦ let far = apart place other less
      in absurd (omega (arith, far, a.last, b.first))
  | inr (inr more) ↦ let far = apart other place more
      in absurd (omega (arith, far, b.last, a.first))
]

-- what is past a place's first is at most one sixteenth shorter than its last
pub last_near : (place duration : ℕ) → first_at place ≤ duration
    → last_at place ≤ duration + duration / 16
last_near place duration least = elim (cases_lt place 16) [
  | inl small ↦
      let this = first_small place small in
      let step = step_small place small in
      omega (arith, this, step, least)
  | inr large ↦
      let this = first_large place large in
      let step = step_large place large in
      let sum : (16 + place % 16) * 2 ^ (place / 16 - 1)
      ≡ 16 * 2 ^ (place / 16 - 1) + place % 16 * 2 ^ (place / 16 - 1) = add-mul 16 (place % 16)
      (2 ^ (place / 16 - 1)) in
      omega (arith, this, step, sum, least)
]

-- ---- the place of a duration

low_power : (j : ℕ) → j < 4 → 2 ^ suc j ≤ 16
low_power j small = elim (cases_eq j 3) [
  | inl is ↦ subst (λ (k : ℕ). 2 ^ suc k ≤ 16) (sym is) (omega arith)
  | inr other ↦
      let less : suc j < 4 = elim (cases_lt j 3) [
        | inl below ↦ omega (arith, below)
        | inr above ↦ absurd (other (omega (arith, small, above)))
      ] in
      let power = pow_below (suc j) 4 less in
      omega (arith, power)
]

pub placed : (duration shift place leading : ℕ) → 16 ≤ duration → duration < 2 ^ 64
    → leading ≡ min (count_leading_zeros 64 duration) 63 → shift ≡ 63 - leading - 4
    → place ≡ (shift + 1) * 16 + duration / 2 ^ shift % 16 → IsAt duration place
placed duration shift place leading large fits leading_is shift_is place_is =
    let top = leading_top 64 duration (omega (arith, large)) fits in
    let high : 4 ≤ top.0 = elim (cases_lt top.0 4) [
      | inl low ↦ let power = low_power top.0 low in absurd (omega (arith, power, large, top.3))
      | inr high ↦ high
    ] in
    let is : top.0 ≡ 4 + shift = omega (arith, top.1, leading_is, shift_is, high) in
    let some = pow_pos shift in
    let low_end : 16 * 2 ^ shift ≤ duration =
    subst (λ (n : ℕ). n ≤ duration) (ap (λ (k : ℕ). 2 ^ k) is ∙ pow-add 2 4 shift) top.2 in
    let high_end : duration < 32 * 2 ^ shift =
    let next : suc top.0 ≡ 5 + shift = omega (arith, is) in
    subst (λ (n : ℕ). duration < n) (ap (λ (k : ℕ). 2 ^ k) next ∙ pow-add 2 5 shift) top.3 in
    let least = le-div 16 duration (2 ^ shift) some low_end in
    let most = div_below duration (2 ^ shift) 32 some high_end in
    let quotient : 16 + place % 16 ≡ duration / 2 ^ shift = omega (arith, place_is, least, most) in
    let power : place / 16 - 1 ≡ shift = omega (arith, place_is) in
    let up : 16 ≤ place = omega (arith, place_is) in
    let first : first_at place ≡ duration / 2 ^ shift * 2 ^ shift =
    first_large place up ∙ ap (λ (n : ℕ). n * 2 ^ (place / 16 - 1)) quotient
    ∙ ap (λ (k : ℕ). duration / 2 ^ shift * 2 ^ k) power in
    let step : step_at place ≡ 2 ^ shift = step_large place up ∙ ap (λ (k : ℕ). 2 ^ k) power in
    let whole = div-add-mod' duration (2 ^ shift) in
    let rest = mod_below duration (2 ^ shift) some in
    record {
      first = omega (arith, first, whole);
      last = omega (arith, first, step, whole, rest);
    }

-- ---- the longest duration of a place

power_within : (shift : ℕ) → shift ≤ 59 → 2 ^ shift ≤ 2 ^ 59
power_within shift small = elim (cases_eq shift 59) [
  | inl is ↦ subst (λ (k : ℕ). 2 ^ k ≤ 2 ^ 59) (sym is) (omega arith)
  | inr other ↦
      let less : shift < 59 = elim (cases_lt shift 59) [
        | inl below ↦ below
        | inr above ↦ absurd (other (omega (arith, small, above)))
      ] in
      let power = pow_below shift 59 less in
      omega (arith, power)
]

pub last_made : (place shift product sum : ℕ) → 16 ≤ place → place < 976
    → shift ≡ min (place / 16 - 1) 59
    → product ≡ min ((16 + place % 16) * (1 * 2 ^ shift % 2 ^ 64)) 18446744073709551615
    → sum ≡ min (product + (1 * 2 ^ shift % 2 ^ 64 - 1)) 18446744073709551615
    → sum ≡ last_at place
last_made place shift product sum large small shift_is product_is sum_is =
    let is : shift ≡ place / 16 - 1 = omega (arith, shift_is, small) in
    let power : 1 * 2 ^ shift % 2 ^ 64 ≡ 2 ^ shift = one_shl shift 64 (omega (arith, shift_is)) in
    let some = pow_pos shift in
    let within = power_within shift (omega (arith, shift_is)) in
    let most = mul-le (16 + place % 16) (2 ^ shift) 31 (2 ^ shift) (omega arith) (omega arith) in
    let first : first_at place ≡ (16 + place % 16) * 2 ^ shift =
    first_large place large ∙ ap (λ (k : ℕ). (16 + place % 16) * 2 ^ k) (sym is) in
    let step : step_at place ≡ 2 ^ shift = step_large place large ∙ ap (λ (k : ℕ). 2 ^ k) (sym is)
    in
    let product_at : product ≡ min ((16 + place % 16) * 2 ^ shift) 18446744073709551615 =
    product_is ∙ ap (λ (n : ℕ). min ((16 + place % 16) * n) 18446744073709551615) power in
    let sum_at : sum ≡ min (product + (2 ^ shift - 1)) 18446744073709551615 =
    sum_is ∙ ap (λ (n : ℕ). min (product + (n - 1)) 18446744073709551615) power in
    omega (arith, product_at, sum_at, first, step, some, within, most)
