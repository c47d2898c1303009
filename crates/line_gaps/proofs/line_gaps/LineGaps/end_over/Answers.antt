use Rattle.std.proofs.Common.{List, ◌++◌, map, subst, ◌∙◌, ap, not}
use Rattle.std.specs.List.{filter}
use Rattle.line_gaps.specs.declared.open_gap.OpenGap.{OpenGap}
use Rattle.line_gaps.specs.Ends.{gap_over}
use Rattle.line_gaps.specs.Runs.{meets_runs}
use Rattle.line_gaps.specs.Sums.{AreSumsOf}
use Rattle.line_gaps.proofs.EndLemmas.{mapped_few}
use Rattle.line_gaps.proofs.line_gaps.LineGaps.end_over.Goals as goal

pub returns-clause-ends : goal.returns-clause-ends
returns-clause-ends c = record {
  more = map (gap_over c.args.self.now.line c.args.lost.now c.args.pass) c.as_slice-3.result.now;
  ended = c.end_each.ensures.ended;
  few = mapped_few _ c.as_slice-3.result.now c.as_slice-3.ensures.fits;
  sums = λ rows are. c.end_each.ensures.sums rows are;
  line = c.end_each.ensures.kept.line;
}

pub returns-clause-sums : goal.returns-clause-sums
returns-clause-sums c = λ rows are.
    subst (λ (gs : List OpenGap). AreSumsOf (rows
    ++ map (gap_over c.args.self.now.line c.args.lost.now c.args.pass) gs) c.end_each.new.self.sums)
    (c.as_slice-3.ensures.value ∙ c.over_ones-over.ensures.are
    ∙ ap (λ (gs : List OpenGap). filter (λ g. not (meets_runs c.args.lost.now.missing.runs.items
    g.run)) gs) c.as_slice.ensures.value)
    (c.end_each.ensures.sums rows are)
