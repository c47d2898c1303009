use Rattle.std.proofs.Common.{ap, subst, sym, ◌++◌, ◌∙◌, ℕ, Bool}
use Rattle.line_gaps.specs.declared.gap_sums.GapSums.{GapSums}
use Rattle.line_gaps.specs.LineSteps.{highest_joined, over_skipped}
use Rattle.line_gaps.specs.Sums.{AreSumsOf}
use Rattle.line_gaps.proofs.line_gaps.LineGaps.skip.Goals as goal

pub returns-clause-skips : goal.returns-clause-skips
returns-clause-skips c =
    let old = c.args.self.now in
    let over = c.end_over.ensures in
    let begun = c.begin_at.ensures in
    record {
      line = begun.line ∙ over.kept.line;
      begun = begun.begun ∙ over.kept.begun;
      highest = begun.highest
          ∙ ap (λ (b : Bool). highest_joined b c.end_over.new.self.highest c.args.joined)
          over.kept.begun
          ∙ ap (λ (h : ℕ). highest_joined old.begun h c.args.joined) over.kept.highest;
      «open» = rw begun.«open» over.«open»;
      sums = λ rows are.
          subst
          (λ (s : GapSums). AreSumsOf (rows ++ over_skipped c.args.time c.args.lost.now old) s)
          (sym begun.sums) (over.sums rows are);
    }
