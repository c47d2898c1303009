use Rattle.std.proofs.Common.{Bool, ap, sym, ◌∙◌}
use Rattle.std.specs.Prelude.{◌&&◌, not}
use Rattle.line_gaps.specs.Runs.{is_in_run}
use Rattle.line_gaps.proofs.RunLemmas.{apart_keeps}
use Rattle.line_gaps.proofs.lost_numbers.LostNumbers.bring.Goals as goal

pub returns-then-not-meets-clause-missing : goal.returns-then-not-meets-clause-missing
returns-then-not-meets-clause-missing c = λ has are none n.
    apart_keeps n c.args.self.now.missing.runs.items c.args.run
    (sym c.meets.ensures ∙ c.if-not-meets.true)
    ∙ ap (λ (b : Bool). b && not (is_in_run n c.args.run)) (are none n)
