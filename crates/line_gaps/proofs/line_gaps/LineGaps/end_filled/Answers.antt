use Rattle.std.proofs.Common.{List, ap, append-nil, refl, sym, ◌++◌, ◌∙◌}
use Rattle.line_gaps.specs.declared.open_gap.EndedGap.{EndedGap}
use Rattle.line_gaps.specs.declared.open_gap.GapEnd.{GapEnd}
use Rattle.line_gaps.specs.Ends.{over_now}
use Rattle.line_gaps.proofs.EndLemmas.{ends_none}
use Rattle.line_gaps.proofs.LineLemmas.{if_not, if_yes}
use Rattle.line_gaps.proofs.line_gaps.LineGaps.end_filled.Goals as goal

pub returns-then-is_filled-clause-open : goal.returns-then-is_filled-clause-open
returns-then-is_filled-clause-open c =
    c.end_over.ensures.«open» ∙ sym (if_yes c.args.is_filled _ _ c.if-is_filled.true)

pub returns-then-is_filled-clause-ended : goal.returns-then-is_filled-clause-ended
returns-then-is_filled-clause-ended c =
    let old = c.args.self.now in
    c.end_over.ensures.ended
    ∙ ap (λ (e : GapEnd). c.args.ended.now.gaps.items ++ over_now old.line c.args.lost.now
    (record { by = e; time = c.args.packet.now.time }) old.«open».items)
    c.end_by_line-by.ensures
    ∙ ap (λ (l : List EndedGap). c.args.ended.now.gaps.items ++ l)
    (sym (if_yes c.args.is_filled _ _ c.if-is_filled.true))

pub returns-else-is_filled : goal.returns-else-is_filled
returns-else-is_filled c = record {
  ends = ends_none 16 c.args.self.now c.args.self.now c.args.ended.now (λ gaps are. are) refl;
  «open» = sym (if_not c.args.is_filled _ _ c.if-is_filled.false);
  ended = sym (append-nil c.args.ended.now.gaps.items)
      ∙ ap (λ (l : List EndedGap). c.args.ended.now.gaps.items ++ l)
      (sym (if_not c.args.is_filled _ _ c.if-is_filled.false));
  kept = record { line = refl; begun = refl; highest = refl; passed = refl };
}
