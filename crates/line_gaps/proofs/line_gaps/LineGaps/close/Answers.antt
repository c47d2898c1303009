use Rattle.std.proofs.Common.{None, ap, map, ℕ, ◌-◌, ◌∙◌}
use Rattle.feed_types.specs.FullCounts.{count_after}
use Rattle.line_gaps.specs.declared.line_gaps.LineGaps.{LineGaps}
use Rattle.line_gaps.specs.declared.open_gap.GapEnd.TheVariants.{Open}
use Rattle.line_gaps.specs.Ends.{gap_over}
use Rattle.line_gaps.proofs.EndLemmas.{closed_few}
use Rattle.line_gaps.proofs.line_gaps.LineGaps.close.Goals as goal

pub returns-clause-ends : goal.returns-clause-ends
returns-clause-ends c = record {
  more = map (gap_over c.args.self.now.line c.args.lost.now (record { by = Open; time = None }))
      c.as_slice.result.now;
  ended = c.end_each.ensures.ended;
  few = closed_few _ c.as_slice.result.now c.as_slice.ensures.fits;
  sums = λ rows are. c.count_tail.ensures.sums _ (c.end_each.ensures.sums rows are);
  line = c.count_tail.ensures.kept.line ∙ c.end_each.ensures.kept.line;
}

pub returns-clause-tail : goal.returns-clause-tail
returns-clause-tail c =
    let known = c.args.lost.now.highest in
    let mid = c.end_each.new.self in
    ap (λ (g : LineGaps). g.sums.tail) c.count_tail.ensures.tail
    ∙ ap (λ (t : ℕ). count_after t (known - mid.highest)) c.end_each.ensures.tail
    ∙ ap (λ (h : ℕ). count_after c.args.self.now.sums.tail (known - h))
    c.end_each.ensures.kept.highest
