-- How many numbers a skip gives up.
use Rattle.std.proofs.Common.{◌≡◌, ℕ, zero, suc, ◌+◌, ◌-◌, ◌<◌, ◌≤◌, inl, inr, Bool, true, false, List, arith, ap, refl, sym, ◌∙◌, min}
use Rattle.std.specs.Prelude.{◌&&◌, ◌||◌, not, nat_le, nat_lt}
use Rattle.std.proofs.lemmas.Bool.{cases_Bool, cases_lt}
use Rattle.std.proofs.lemmas.Bool.Decides.{nat_tests}
use Rattle.feed_types.specs.FullCounts.{count_after}
use Rattle.event_sinks.specs.SinkEvents.{TimedEvent}
use Rattle.line_gaps.specs.declared.lost_numbers.LostNumbers.{LostNumbers}
use Rattle.line_gaps.specs.declared.number_run.NumberRun.{NumberRun}
use Rattle.line_gaps.specs.Gaps.{number_has_come, is_left, is_missing, is_missing_by, known_number, was_passed}
use Rattle.line_gaps.specs.Missing.{FitsLost, given_up_by}
use Rattle.line_gaps.specs.Runs.{count_below, is_in_run, is_in_runs, len_of, sum_in}
use Rattle.line_gaps.proofs.MissingLemmas.{missing_known, not_below}
use Rattle.line_gaps.proofs.RunCounts.{count_agrees, count_either, count_of_agrees, count_span, count_up_to, sum_is_count}
use Rattle.line_gaps.proofs.RunOrders.{in_span}

at_most : (m n : ℕ) → m ≤ n → nat_le m n ≡ true
at_most m n is = grind (arith, nat_tests, is)

not_at_most : (m n : ℕ) → n < m → nat_le m n ≡ false
not_at_most m n is = grind (arith, nat_tests, is)

below : (m n : ℕ) → m < n → nat_lt m n ≡ true
below m n is = grind (arith, nat_tests, is)

reversed : (m n : ℕ) → nat_le m n ≡ not (nat_lt n m)
reversed m n = grind (arith, nat_tests)

left_unknown : (p : Bool)
    → ((true && (false && not (false || p))) || (true && (not p && true)))
    ≡ (true && not (false || p))
left_unknown true = refl
left_unknown false = refl

left_known : (z b : Bool) → ((z && (true && not b)) || false) ≡ (z && not b)
left_known true true = refl
left_known true false = refl
left_known false b = refl

-- What is left below a number is missing, or nothing is known of it.
left_at : (n known floor number : ℕ) (come passed : Bool) → passed ≡ nat_lt n floor
    → (known < n → come ≡ false) → n < number
    → (is_missing_by known come passed n
    || (nat_lt known n && (nat_le floor n && nat_lt n number)))
    ≡ (nat_lt 0 n && not (come || passed))
left_at n known floor number come passed by fresh within = elim (cases_lt known n) [
  | inl past ↦
      rw (
        fresh past,
        by,
        not_at_most n known past,
        below known n past,
        below 0 n (omega (arith, past)),
        below n number within,
        reversed floor n,
      )
      (left_unknown (nat_lt n floor))
  | inr heard ↦
      rw (at_most n known heard, not_below known n heard)
      (left_known (nat_lt 0 n) (come || passed))
]

first_false : (a b : Bool) → a ≡ false → (a && b) ≡ false
first_false false b e = refl
first_false true b e = cc e

count_left : (events : List TimedEvent) (lost : LostNumbers) (unknown : NumberRun) (number : ℕ)
    → FitsLost events lost
    → ((n : ℕ) → is_in_run n unknown
    ≡ (nat_lt lost.highest n && (nat_le lost.floor n && nat_lt n number)))
    → count_below (is_missing events) number + count_below (λ n. is_in_run n unknown) number
    ≡ count_below (is_left events) number
count_left events lost unknown number fits is =
    let known = known_number events in
    sym (count_either (is_missing events) (λ n. is_in_run n unknown) number
    (λ n e.
    let heard : n ≤ lost.highest = (let at = missing_known events n e in
    omega (arith, at, fits.highest)) in
    is n ∙ first_false _ _ (not_below lost.highest n heard)))
    ∙ count_agrees _ (is_left events) number (λ n within.
    ap (λ (b : Bool). is_missing events n || b) (is n)
    ∙ ap (λ (h : ℕ). is_missing events n
    || (nat_lt h n && (nat_le lost.floor n && nat_lt n number))) fits.highest
    ∙ left_at n known lost.floor number (number_has_come events n) (was_passed events n)
    (fits.floor n) (fits.come n) within)

zero_is_none : (b : Bool) → (nat_lt 0 0 && b) ≡ false
zero_is_none b = refl

count_to : (events : List TimedEvent) (number : ℕ)
    → count_below (is_missing events) (number - 1 + 1) ≡ count_below (is_missing events) number
count_to events zero = refl
count_to events (suc n) =
    let same : suc n - 1 + 1 ≡ suc n = omega arith in
    ap (λ (k : ℕ). count_below (is_missing events) k) same

-- a run has as many numbers as there are of it below a number that is past them
len_below : (run : NumberRun) (number : ℕ)
    → ((n : ℕ) → is_in_run n run ≡ true → n < number)
    → count_below (λ n. is_in_run n run) number ≡ run.last + 1 - run.first
len_below run number past =
    let span = count_span run.first run.last number in
    elim (cases_lt run.last run.first) [
      | inl none ↦ omega (arith, span, none)
      | inr some ↦
          let within : run.last < number =
          past run.last (in_span run.last run.first run.last some (omega arith)) in
          omega (arith, span, within)
    ]

last_test : (a b c : Bool) → (a && (b && c)) ≡ true → c ≡ true
last_test true true c e = e
last_test true false c e = cc e
last_test false b c e = cc e

below_from : (n number : ℕ) → nat_lt n number ≡ true → n < number
below_from n number f = grind (arith, nat_tests, f)

capped : (a b : ℕ) → a ≤ 18446744073709551615
    → count_after a b ≡ min (a + b) 18446744073709551615
capped a zero within = omega (arith, within)
capped a (suc b) within = refl

-- The missing numbers below one, and those of which nothing is known, are those that a skip to it
-- gives up.
pub given_count : (events : List TimedEvent) (lost : LostNumbers) (unknown : NumberRun)
    (number : ℕ) → FitsLost events lost → lost.missing.dropped ≡ 0
    → ((n : ℕ) → is_in_run n unknown
    ≡ (nat_lt lost.highest n && (nat_le lost.floor n && nat_lt n number)))
    → count_after (sum_in lost.missing.runs.items (record { first = 0; last = number - 1 }))
    (len_of unknown) ≡ given_up_by events number
given_count events lost unknown number fits whole is =
    let below_it : NumberRun = record { first = 0; last = number - 1 } in
    let missing = sum_is_count lost.missing.runs.items below_it (fits.order whole) in
    let set = count_of_agrees (λ n. is_in_runs n lost.missing.runs.items) (is_missing events)
    below_it (fits.missing whole) ∙ count_up_to (is_missing events) (number - 1)
    ∙ count_to events number in
    let len = len_below unknown number
    (λ n e. below_from n number (last_test (nat_lt lost.highest n) (nat_le lost.floor n)
    (nat_lt n number) (sym (is n) ∙ e))) in
    let left = count_left events lost unknown number fits is in
    capped (sum_in lost.missing.runs.items below_it) (len_of unknown) (omega (arith, missing))
    ∙ omega (arith, missing, set, len, left)
