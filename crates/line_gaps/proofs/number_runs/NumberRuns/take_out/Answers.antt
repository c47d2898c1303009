use Rattle.std.proofs.Common.{Bool, ap, sym, ◌∙◌}
use Rattle.std.specs.Prelude.{◌&&◌, not}
use Rattle.line_gaps.specs.Runs.{is_in_run}
use Rattle.line_gaps.proofs.RunCounts.{none_met}
use Rattle.line_gaps.proofs.RunLemmas.{apart_keeps}
use Rattle.line_gaps.proofs.number_runs.NumberRuns.take_out.Goals as goal

pub returns-then-count-eq0-clause-has : goal.returns-then-count-eq0-clause-has
returns-then-count-eq0-clause-has c = λ has order are none n.
    let runs = c.args.self.now.runs.items in
    apart_keeps n runs c.args.run
    (none_met runs c.args.run order (sym c.count_in-count.ensures ∙ c.if-count-eq0.true))
    ∙ ap (λ (b : Bool). b && not (is_in_run n c.args.run)) (are none n)
