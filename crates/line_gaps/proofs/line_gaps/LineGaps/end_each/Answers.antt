use Rattle.std.proofs.Common.{List, ◌++◌, map, take, refl, subst, ◌∙◌}
use Rattle.line_gaps.specs.declared.open_gap.EndedGap.{EndedGap}
use Rattle.line_gaps.specs.Ends.{gap_over}
use Rattle.line_gaps.specs.Sums.{AreSumsOf}
use Rattle.line_gaps.proofs.EndLemmas.{ends_more, one_longer}
use Rattle.line_gaps.proofs.line_gaps.LineGaps.end_each.Goals as goal

pub loop-gap-preserved : goal.loop-gap-preserved
loop-gap-preserved c =
    let was = c.loop-gap.invariant in
    let line = c.args.self.now.line in
    let over = gap_over line c.args.lost.now c.args.pass in
    let gaps = c.args.gaps.now in
    let i = c.loop-gap.gap-index in
    let said = c.end.ensures in
    record {
      ended = ends_more line c.loop-gap.self.line c.args.lost.now c.args.pass gaps i _
          c.args.ended.now.gaps.items c.loop-gap.ended.gaps.items _ c.loop-gap-test.true
          was.kept.line was.ended said.ended;
      few = one_longer c.loop-gap.ended.gaps.items _ _ _ i was.few said.ended;
      sums = λ rows are.
          subst (λ (l : List EndedGap). AreSumsOf l c.end.new.self.sums)
          (ends_more line c.loop-gap.self.line c.args.lost.now c.args.pass gaps i _ rows
          (rows ++ map over (take i gaps)) _ c.loop-gap-test.true was.kept.line refl refl)
          (said.sums (rows ++ map over (take i gaps)) (was.sums rows are));
      merged = said.merged ∙ was.merged;
      tail = said.tail ∙ was.tail;
      same = said.«open» ∙ was.same;
      kept = record {
        line = said.kept.line ∙ was.kept.line;
        begun = said.kept.begun ∙ was.kept.begun;
        highest = said.kept.highest ∙ was.kept.highest;
        passed = said.kept.passed ∙ was.kept.passed;
      };
    }
