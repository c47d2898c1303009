use Rattle.std.proofs.Common.{rules, tests, ◌≡◌, ◌+◌, true, false, not, length, refl, sym, ap, ◌∙◌, arith, cond}
use Rattle.std.specs.Prelude.{nat_le}
use Rattle.std.specs.Option.{unwrap_or}
use Rattle.std.proofs.lemmas.Iterator.{IsFirst-from_position, YieldsList-from_slice, index_from_first}
use Rattle.report_rows.specs.PeriodLists.{period_place_of}
use Rattle.report_rows.proofs.kept_periods.place_of.Goals as goal

pub returns-clause-place : goal.returns-clause-place
returns-clause-place g c =
    let begin = c.args.begin in
    let ps = c.args.periods.now in
    let first = IsFirst-from_position _ _ c.position.result (λ q. nat_le q.begin begin ≡ true)
    (λ q. nat_le q.begin begin ≡ false)
    c.position.ensures.ran (YieldsList-from_slice ps cc) (λ x q k. search (rules, tests))
    (λ x q k. search (rules, tests)) in
    let found : period_place_of begin ps ≡ unwrap_or c.position.result (length ps) =
    index_from_first (period_place_of begin) (λ q. nat_le q.begin begin ≡ true)
    (λ q. nat_le q.begin begin ≡ false)
    refl
    (λ x xs e. ap (λ b. cond (not b) (1 + period_place_of begin xs) 0) e)
    (λ x xs e. ap (λ b. cond (not b) (1 + period_place_of begin xs) 0) e ∙ omega arith)
    ps c.position.result first in
    c.unwrap_or.ensures ∙ sym found
