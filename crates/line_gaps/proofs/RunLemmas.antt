-- Runs of numbers, one by one.
use Rattle.std.proofs.Common.{◌≡◌, ℕ, ◌+◌, ◌<◌, ◌≤◌, Bool, true, false, List, [], ◌∷◌, ◌++◌, take, length, get_or, arith, ap, refl, sym, ◌∙◌, max, min}
use Rattle.std.specs.Prelude.{◌&&◌, ◌||◌, not, nat_eq, nat_le, nat_lt}
use Rattle.std.proofs.lemmas.Bool.Decides.{nat_tests}
use Rattle.std.proofs.lemmas.List.Folds.{list_any-append, list_any_more}
use Rattle.line_gaps.specs.declared.number_run.NumberRun.{NumberRun}
use Rattle.line_gaps.specs.Runs.{is_before, is_in_run, is_in_runs, meets_run, meets_runs}

-- outside a cut is below or above it
pub is_outside : (n first last : ℕ) → (nat_lt n first || nat_lt last n)
    ≡ not (nat_le first n && nat_le n last)
is_outside n first last = grind (arith, nat_tests)

parts : (old now run below above out : Bool) → (below || above) ≡ out
    → ((old || (now && out)) || (run && below)) || (run && above)
    ≡ (old || ((now || run) && out))
parts true now run below above out e = refl
parts false true true below above true e = refl
parts false true true below above false e = e
parts false true false below above true e = refl
parts false true false below above false e = refl
parts false false true below above out e = e
parts false false false below above out e = refl

pub outside_more : (now mid last old : Bool) (n : ℕ) (runs : List NumberRun) (i : ℕ)
    (cut d : NumberRun) → i < length runs
    → now ≡ (old || (is_in_runs n (take i runs) && not (is_in_run n cut)))
    → mid ≡ (now || (is_in_run n (get_or runs i d) && nat_lt n cut.first))
    → last ≡ (mid || (is_in_run n (get_or runs i d) && nat_lt cut.last n))
    → last ≡ (old || (is_in_runs n (take (i + 1) runs) && not (is_in_run n cut)))
outside_more now mid last old n runs i cut d within a b c =
    let run = is_in_run n (get_or runs i d) in
    let known = is_in_runs n (take i runs) in
    let out = not (is_in_run n cut) in
    c ∙ ap (λ (m : Bool). m || (run && nat_lt cut.last n)) (b
    ∙ ap (λ (m : Bool). m || (run && nat_lt n cut.first)) a)
    ∙ parts old known run (nat_lt n cut.first) (nat_lt cut.last n) out
    (is_outside n cut.first cut.last)
    ∙ ap (λ (k : Bool). old || (k && out)) (sym (list_any_more (is_in_run n) runs i d within))

-- ---- a run that meets none

in_apart : (n a b c d : ℕ) → nat_le (max a c) (min b d) ≡ false
    → (nat_le a n && nat_le n b) ≡ true → (nat_le c n && nat_le n d) ≡ false
in_apart n a b c d apart is = grind (arith, nat_tests, apart, is)

not_false : (b : Bool) → b ≡ false → true ≡ not b
not_false true e = cc e
not_false false e = refl

kept_if : (x more r : Bool) → (x ≡ true → r ≡ false) → more ≡ (more && not r)
    → (x || more) ≡ ((x || more) && not r)
kept_if true more r apart rest = not_false r (apart refl)
kept_if false more r apart rest = rest

or_left : (a b : Bool) → (a || b) ≡ false → a ≡ false
or_left false b e = refl
or_left true b e = cc e

or_rest : (a b : Bool) → (a || b) ≡ false → b ≡ false
or_rest false b e = e
or_rest true b e = cc e

pub apart_keeps : (n : ℕ) (runs : List NumberRun) (r : NumberRun) → meets_runs runs r ≡ false
    → is_in_runs n runs ≡ (is_in_runs n runs && not (is_in_run n r))
apart_keeps n [] r apart = refl
apart_keeps n (x ∷ runs) r apart =
    kept_if (is_in_run n x) (is_in_runs n runs) (is_in_run n r)
    (in_apart n x.first x.last r.first r.last (or_left (meets_run x r) (meets_runs runs r) apart))
    (apart_keeps n runs r (or_rest (meets_run x r) (meets_runs runs r) apart))

-- ---- neighbours

both_true : (a b : Bool) → (a && b) ≡ true → a ≡ true
both_true true b e = refl
both_true false b e = cc e

rest_true : (a b : Bool) → (a && b) ≡ true → b ≡ true
rest_true true b e = e
rest_true false b e = cc e

joined : (n a b c d : ℕ) → nat_le a c ≡ true → nat_eq (b + 1) c ≡ true → c ≤ d
    → (nat_le a n && nat_le n d) ≡ ((nat_le a n && nat_le n b) || (nat_le c n && nat_le n d))
joined n a b c d from next to = grind (arith, nat_tests, from, next, to)

pub or_none : (a : Bool) → (a || false) ≡ a
or_none true = refl
or_none false = refl

or_among : (a b c d : Bool) → d ≡ (b || c) → (a || (d || false)) ≡ ((a || (b || false)) || c)
or_among true b c d e = refl
or_among false true c d e = rw e refl
or_among false false c d e = rw e (or_none c)

-- a run that two neighbours make
pub joined_runs : (n : ℕ) (runs new : List NumberRun) (last run : NumberRun)
    → is_before last run ≡ true → run.first ≤ run.last
    → new ≡ runs ++ record { first = last.first; last = run.last } ∷ []
    → is_in_runs n new ≡ (is_in_runs n (runs ++ last ∷ []) || is_in_run n run)
joined_runs n runs new last run before some is =
    let both : NumberRun = record { first = last.first; last = run.last } in
    ap (λ (rs : List NumberRun). is_in_runs n rs) is
    ∙ list_any-append (is_in_run n) runs (both ∷ [])
    ∙ or_among (is_in_runs n runs) (is_in_run n last) (is_in_run n run) (is_in_run n both)
    (joined n last.first last.last run.first run.last
    (both_true (nat_le last.first run.first) (nat_eq (last.last + 1) run.first) before)
    (rest_true (nat_le last.first run.first) (nat_eq (last.last + 1) run.first) before) some)
    ∙ ap (λ (b : Bool). b || is_in_run n run)
    (sym (list_any-append (is_in_run n) runs (last ∷ [])))

-- a run after others
pub run_after : (n : ℕ) (runs new : List NumberRun) (run : NumberRun) → new ≡ runs ++ run ∷ []
    → is_in_runs n new ≡ (is_in_runs n runs || is_in_run n run)
run_after n runs new run is =
    ap (λ (rs : List NumberRun). is_in_runs n rs) is
    ∙ list_any-append (is_in_run n) runs (run ∷ [])
    ∙ ap (λ (b : Bool). is_in_runs n runs || b) (or_none (is_in_run n run))

-- a run without numbers
pub none_in : (n a b : ℕ) → b < a → (nat_le a n && nat_le n b) ≡ false
none_in n a b empty = grind (arith, nat_tests, empty)

pub none_more : (n : ℕ) (runs : List NumberRun) (run : NumberRun) → run.last < run.first
    → is_in_runs n runs ≡ (is_in_runs n runs || is_in_run n run)
none_more n runs run empty =
    sym (ap (λ (b : Bool). is_in_runs n runs || b) (none_in n run.first run.last empty)
    ∙ or_none (is_in_runs n runs))
