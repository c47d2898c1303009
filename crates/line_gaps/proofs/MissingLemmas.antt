-- Which numbers are missing after one more event.
use Rattle.std.proofs.Common.{◌≡◌, ℕ, zero, suc, ◌+◌, ◌-◌, ◌<◌, ◌≤◌, inl, inr, Bool, true, false, List, [], ◌∷◌, arith, ap, refl, sym, subst, ◌∙◌, max}
use Rattle.std.specs.Prelude.{◌&&◌, ◌||◌, not, nat_le}
use Rattle.std.proofs.lemmas.Bool.{cases_lt}
use Rattle.std.proofs.lemmas.Bool.Decides.{nat_tests}
use Rattle.std.specs.Prelude.{Option, Some, nat_lt}
use Rattle.event_sinks.specs.SinkEvents.{TimedEvent}
use Rattle.line_gaps.specs.declared.heard_packet.TimedPacket.{TimedPacket}
use Rattle.line_gaps.specs.declared.lost_numbers.LostNumbers.{LostNumbers}
use Rattle.line_gaps.specs.declared.number_runs.NumberRuns.{NumberRuns}
use Rattle.line_gaps.specs.Gaps.{brings_number, counts_with, number_has_come, highest_with, is_given_up, is_missing, is_missing_by, known_number, last_number_told, passes, was_passed}
use Rattle.line_gaps.specs.Missing.{FitsLost, is_learnt}
use Rattle.line_gaps.specs.Runs.{AreAscending, HaveJust, is_in_runs}

-- a number that was known
known_all : (z b c p : Bool) → (((z && (true && not (c || p))) && not b) || false)
    ≡ (z && (true && not ((b || c) || (false || p))))
known_all true true true true = refl
known_all true true true false = refl
known_all true true false true = refl
known_all true true false false = refl
known_all true false true true = refl
known_all true false true false = refl
known_all true false false true = refl
known_all true false false false = refl
known_all false true true true = refl
known_all false true true false = refl
known_all false true false true = refl
known_all false true false false = refl
known_all false false true true = refl
known_all false false true false = refl
known_all false false false true = refl
known_all false false false false = refl

-- one that wasn't
unknown_all : (l b p : Bool) → (not p && (l && not b))
    ≡ (l && not ((b || false) || (false || p)))
unknown_all true true true = refl
unknown_all true true false = refl
unknown_all true false true = refl
unknown_all true false false = refl
unknown_all false true true = refl
unknown_all false true false = refl
unknown_all false false true = refl
unknown_all false false false = refl

at_most : (m n : ℕ) → m ≤ n → nat_le m n ≡ true
at_most m n is = grind (arith, nat_tests, is)

not_at_most : (m n : ℕ) → n < m → nat_le m n ≡ false
not_at_most m n is = grind (arith, nat_tests, is)

below : (m n : ℕ) → m < n → nat_lt m n ≡ true
below m n is = grind (arith, nat_tests, is)

pub not_below : (m n : ℕ) → n ≤ m → nat_lt m n ≡ false
not_below m n is = grind (arith, nat_tests, is)

reversed : (m n : ℕ) → nat_le m n ≡ not (nat_lt n m)
reversed m n = grind (arith, nat_tests)

known_max : (n known last : ℕ) → n ≤ known → nat_le n (max known last) ≡ true
known_max n known last is = grind (arith, nat_tests, is)

unknown_max : (n known last : ℕ) → known < n → nat_le n (max known last) ≡ nat_le n last
unknown_max n known last is = grind (arith, nat_tests, is)

-- A packet tells of the numbers up to its last, and brings_number those where b is true.
pub missing_with : (n known last below_it floor : ℕ) (b come passed : Bool)
    → passed ≡ nat_lt n floor → (known < n → come ≡ false)
    → (known < n → nat_le n below_it ≡ (nat_le n last && not b))
    → ((is_missing_by known come passed n && not b) || is_learnt known floor below_it n)
    ≡ is_missing_by (max known last) (b || come) (false || passed) n
missing_with n known last below_it floor b come passed by fresh told = elim (cases_lt known n) [
  | inl past ↦
      rw (
        fresh past,
        told past,
        by,
        unknown_max n known last past,
        not_at_most n known past,
        below known n past,
        below 0 n (omega (arith, past)),
        reversed floor n,
      )
      (unknown_all (nat_le n last) b (nat_lt n floor))
  | inr within ↦
      rw (known_max n known last within, at_most n known within, not_below known n within)
      (known_all (nat_lt 0 n) b come passed)
]

pub and_true : (b : Bool) → (b && true) ≡ b
and_true true = refl
and_true false = refl

pub none_given : (g p z : Bool) → p ≡ false → ((p && z) || g) ≡ g
none_given g p z is = ap (λ (b : Bool). (b && z) || g) is

pub either_false : (a b : Bool) → a ≡ false → b ≡ false → (a || b) ≡ false
either_false false b e f = f
either_false true b e f = cc e

-- The numbers fit the events with one more, with which a packet counts that brings_number b.
pub fits_packet : (events : List TimedEvent) (last : TimedEvent) (packet : TimedPacket)
    (old new : LostNumbers) (below_it : ℕ) (b : ℕ → Bool)
    → counts_with events last.time last.event ≡ Some packet
    → ((n : ℕ) → passes n last.event ≡ false)
    → ((n : ℕ) → brings_number n last.event ≡ b n)
    → ((n : ℕ) → last_number_told packet.number packet.count < n → b n ≡ false)
    → ((n : ℕ) → 0 < n → nat_le n below_it
    ≡ (nat_le n (last_number_told packet.number packet.count) && not (b n)))
    → FitsLost events old → old.missing.dropped ≤ new.missing.dropped
    → (new.missing.dropped ≡ 0 → (n : ℕ) → is_in_runs n new.missing.runs.items
    ≡ ((is_missing events n && not (b n)) || is_learnt old.highest old.floor below_it n))
    → (new.missing.dropped ≡ 0 → AreAscending new.missing.runs.items)
    → new.highest ≡ max old.highest (last_number_told packet.number packet.count)
    → new.floor ≡ old.floor → new.given_up ≡ old.given_up
    → FitsLost (last ∷ events) new
fits_packet events last packet old new below_it b counts passes_none brings_b past told fits more
    missing order highest floor given =
    let end = last_number_told packet.number packet.count in
    let known = known_number events in
    let reach : known_number (last ∷ events) ≡ max known end =
    ap (λ (p : Option TimedPacket). highest_with known p) counts in
    record {
      missing = λ none n.
          missing none n
          ∙ ap (λ (h : ℕ). (is_missing events n && not (b n)) || is_learnt h old.floor below_it n)
          fits.highest
          ∙ missing_with n known end below_it old.floor (b n) (number_has_come events n)
          (was_passed events n) (fits.floor n) (fits.come n)
          (λ over. told n (omega (arith, over)))
          ∙ ap (λ (k : ℕ). is_missing_by k (b n || number_has_come events n)
          (false || was_passed events n) n) (sym reach)
          ∙ ap (λ (c : Bool). is_missing_by (known_number (last ∷ events))
          (c || number_has_come events n)
          (false || was_passed events n) n) (sym (brings_b n))
          ∙ ap (λ (c : Bool). is_missing_by (known_number (last ∷ events))
          (brings_number n last.event || number_has_come events n) (c || was_passed events n) n)
          (sym (passes_none n));
      given_up = λ none few n.
          ap (λ (g : NumberRuns). is_in_runs n g.runs.items) given
          ∙ fits.given_up (omega (arith, none, more))
          (sym (ap (λ (g : NumberRuns). g.dropped) given) ∙ few) n
          ∙ sym (none_given (is_given_up events n) (passes n last.event) _ (passes_none n));
      order = order;
      given_order = λ none few.
          subst (λ (g : NumberRuns). AreAscending g.runs.items) (sym given)
          (fits.given_order (omega (arith, none, more))
          (sym (ap (λ (g : NumberRuns). g.dropped) given) ∙ few));
      highest = highest ∙ ap (λ (h : ℕ). max h end) fits.highest ∙ sym reach;
      floor = λ n.
          ap (λ (c : Bool). c || was_passed events n) (passes_none n) ∙ fits.floor n
          ∙ ap (λ (f : ℕ). nat_lt n f) (sym floor);
      come = λ n over.
          let far : max known end < n = omega (arith, over, reach) in
          either_false (brings_number n last.event) (number_has_come events n)
          (brings_b n ∙ past n (omega (arith, far))) (fits.come n (omega (arith, far)));
    }

pub brought_past : (first last n : ℕ) → last < n → (nat_le first n && nat_le n last) ≡ false
brought_past first last n over = grind (arith, nat_tests, over)

below_first : (first last n : ℕ) → 0 < n → first - 1 ≤ last → nat_le n (first - 1)
    ≡ (nat_le n last && not (nat_le first n && nat_le n last))
below_first first last n over from = grind (arith, nat_tests, over, from)

pub told_from : (first count : ℕ) → first - 1 < 18446744073709551616
    → first - 1 ≤ last_number_told first count
told_from first zero fits = omega arith
told_from first (suc count) fits = omega (arith, fits)

-- what is told of and not brought is below the first
pub brought_below : (first count n : ℕ) → first - 1 < 18446744073709551616 → 0 < n
    → nat_le n (first - 1)
    ≡ (nat_le n (last_number_told first count) && not (nat_le first n && nat_le n
    (last_number_told first count)))
brought_below first count n fits over =
    below_first first (last_number_told first count) n over (told_from first count fits)

-- ---- a skip

skipped_all : (k s c p : Bool)
    → ((true && (k && not (c || p))) && not s) ≡ (true && (k && not ((false || c) || (s || p))))
skipped_all true true true true = refl
skipped_all true true true false = refl
skipped_all true true false true = refl
skipped_all true true false false = refl
skipped_all true false true true = refl
skipped_all true false true false = refl
skipped_all true false false true = refl
skipped_all true false false false = refl
skipped_all false true true true = refl
skipped_all false true true false = refl
skipped_all false true false true = refl
skipped_all false true false false = refl
skipped_all false false true true = refl
skipped_all false false true false = refl
skipped_all false false false true = refl
skipped_all false false false false = refl

skipped_some : (k s c p u : Bool) → u ≡ s
    → ((true && (k && not (c || p))) && not u) ≡ (true && (k && not ((false || c) || (s || p))))
skipped_some k s c p u is = rw is (skipped_all k s c p)

-- what is missing is below the number, or it isn't
pub missing_skipped : (n known number : ℕ) (come passed : Bool)
    → (is_missing_by known come passed n && not (nat_le 0 n && nat_le n (number - 1)))
    ≡ is_missing_by known (false || come) (nat_lt n number || passed) n
missing_skipped n known number come passed = elim (cases_lt 0 n) [
  | inl past ↦
      let low : (nat_le 0 n && nat_le n (number - 1)) ≡ nat_lt n number =
      grind (arith, nat_tests, past) in
      rw (below 0 n past) (skipped_some (nat_le n known) (nat_lt n number) come passed
      (nat_le 0 n && nat_le n (number - 1)) low)
  | inr none ↦ rw (not_below 0 n none) refl
]

-- the numbers that are given up by a skip
given_known : (z c p s g : Bool) → ((g || ((z && (true && not (c || p))) && s)) || (false || false))
    ≡ ((s && (z && not (c || p))) || g)
given_known true true true true true = refl
given_known true true true true false = refl
given_known true true true false true = refl
given_known true true true false false = refl
given_known true true false true true = refl
given_known true true false true false = refl
given_known true true false false true = refl
given_known true true false false false = refl
given_known true false true true true = refl
given_known true false true true false = refl
given_known true false true false true = refl
given_known true false true false false = refl
given_known true false false true true = refl
given_known true false false true false = refl
given_known true false false false true = refl
given_known true false false false false = refl
given_known false true true true true = refl
given_known false true true true false = refl
given_known false true true false true = refl
given_known false true true false false = refl
given_known false true false true true = refl
given_known false true false true false = refl
given_known false true false false true = refl
given_known false true false false false = refl
given_known false false true true true = refl
given_known false false true true false = refl
given_known false false true false true = refl
given_known false false true false false = refl
given_known false false false true true = refl
given_known false false false true false = refl
given_known false false false false true = refl
given_known false false false false false = refl

given_unknown : (p s g : Bool)
    → ((g || ((true && (false && not (false || p))) && s)) || ((true && (not p && s)) || false))
    ≡ ((s && (true && not (false || p))) || g)
given_unknown true true true = refl
given_unknown true true false = refl
given_unknown true false true = refl
given_unknown true false false = refl
given_unknown false true true = refl
given_unknown false true false = refl
given_unknown false false true = refl
given_unknown false false false = refl

pub given_skipped : (n known number floor : ℕ) (come passed given : Bool)
    → passed ≡ nat_lt n floor → (known < n → come ≡ false)
    → ((given || (is_missing_by known come passed n && nat_lt n number))
    || ((nat_lt known n && (nat_le floor n && nat_lt n number)) || false))
    ≡ ((nat_lt n number && (nat_lt 0 n && not (come || passed))) || given)
given_skipped n known number floor come passed given by fresh = elim (cases_lt known n) [
  | inl past ↦
      rw (
        fresh past,
        by,
        not_at_most n known past,
        below known n past,
        below 0 n (omega (arith, past)),
        reversed floor n,
      )
      (given_unknown (nat_lt n floor) (nat_lt n number) given)
  | inr within ↦
      rw (at_most n known within, not_below known n within)
      (given_known (nat_lt 0 n) come passed (nat_lt n number) given)
]

pub floor_skipped : (n floor number : ℕ) → (nat_lt n number || nat_lt n floor)
    ≡ nat_lt n (max floor number)
floor_skipped n floor number = grind (arith, nat_tests)

pub same_lost : (events : List TimedEvent) (last : TimedEvent) (a b : LostNumbers) → b ≡ a
    → FitsLost (last ∷ events) a → FitsLost (last ∷ events) b
same_lost events last a b same fits =
    subst (λ (l : LostNumbers). FitsLost (last ∷ events) l) (sym same) fits

-- ---- in order

and_then : (a b c : Bool) → (a && (b && c)) ≡ true → b ≡ true
and_then true true c e = refl
and_then true false c e = cc e
and_then false b c e = cc e

and_last : (a b c : Bool) → (a && (b && not c)) ≡ true → c ≡ false
and_last true true false e = refl
and_last true true true e = cc e
and_last true false c e = cc e
and_last false b c e = cc e

at_most_from : (m n : ℕ) → nat_le m n ≡ true → m ≤ n
at_most_from m n e = grind (arith, nat_tests, e)

pub missing_known : (events : List TimedEvent) (n : ℕ) → is_missing events n ≡ true
    → n ≤ known_number events
missing_known events n e =
    at_most_from n (known_number events) (and_then (nat_lt 0 n) (nat_le n (known_number events))
    (not (number_has_come events n || was_passed events n)) e)

-- what is missing was not passed by a skip
pub missing_from : (events : List TimedEvent) (floor n : ℕ)
    → was_passed events n ≡ nat_lt n floor → is_missing events n ≡ true → floor ≤ n
missing_from events floor n by e =
    let none : (number_has_come events n || was_passed events n) ≡ false =
    and_last (nat_lt 0 n) (nat_le n (known_number events)) _ e in
    not_below_from n floor (sym by ∙ second_false (number_has_come events n) (was_passed events n)
    none)
  where
    second_false : (a b : Bool) → (a || b) ≡ false → b ≡ false
    second_false false b f = f
    second_false true b f = cc f

    not_below_from : (n floor : ℕ) → nat_lt n floor ≡ false → floor ≤ n
    not_below_from n floor f = grind (arith, nat_tests, f)

passed_or : (p z g w : Bool) → (g ≡ true → w ≡ true) → ((p && z) || g) ≡ true → (p || w) ≡ true
passed_or true z g w then_ e = refl
passed_or false z g w then_ e = then_ e

-- what was given up was passed
pub given_passed : (events : List TimedEvent) (n : ℕ) → is_given_up events n ≡ true
    → was_passed events n ≡ true
given_passed [] n e = cc e
given_passed (last ∷ earlier) n e =
    passed_or (passes n last.event) _ (is_given_up earlier n) (was_passed earlier n)
    (given_passed earlier n) e

pub given_below : (events : List TimedEvent) (floor n : ℕ) → was_passed events n ≡ nat_lt n floor
    → is_given_up events n ≡ true → n < floor
given_below events floor n by e = below_from n floor (sym by ∙ given_passed events n e)
  where
    below_from : (n floor : ℕ) → nat_lt n floor ≡ true → n < floor
    below_from n floor f = grind (arith, nat_tests, f)

pub unknown_from : (highest floor number n : ℕ)
    → (nat_lt highest n && (nat_le floor n && nat_lt n number)) ≡ true
    → max (highest + 1) floor ≤ n
unknown_from highest floor number n e = grind (arith, nat_tests, e)

none_below : (n known : ℕ) (b : Bool) → known ≡ 0 → (nat_lt 0 n && (nat_le n known && b)) ≡ false
none_below n known b is = grind (arith, nat_tests, is)

-- no number, before all events
pub fits_first : (lost : LostNumbers) → HaveJust lost.missing (λ n. false)
    → HaveJust lost.given_up (λ n. false) → lost.missing.runs.items ≡ []
    → lost.given_up.runs.items ≡ [] → lost.highest ≡ 0 → lost.floor ≡ 0 → FitsLost [] lost
fits_first lost missing given no_missing no_given highest floor = record {
  missing = λ none n. missing none n ∙ sym (none_below n 0 true refl);
  given_up = λ none few n. given few n;
  order = λ none. subst AreAscending (sym no_missing) tt;
  given_order = λ none few. subst AreAscending (sym no_given) tt;
  highest = highest;
  floor = λ n. sym (not_below n lost.floor (omega (arith, floor)));
  come = λ n over. refl;
}
