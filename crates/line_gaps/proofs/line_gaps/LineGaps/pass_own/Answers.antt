use Rattle.std.proofs.Common.{Option, ap, append-nil, refl, subst, sym, ◌++◌, ◌∙◌}
use Rattle.line_gaps.specs.declared.heard_packet.TimedPacket.{TimedPacket}
use Rattle.line_gaps.specs.Ends.{over_new}
use Rattle.line_gaps.specs.LineSteps.{PassesLine}
use Rattle.line_gaps.specs.OpenGaps.{gap_passed}
use Rattle.line_gaps.proofs.EndLemmas.{ends_none}
use Rattle.line_gaps.proofs.LineLemmas.{own_not, own_yes, passes_none}
use Rattle.line_gaps.proofs.line_gaps.LineGaps.pass_own.Goals as goal

pub returns-then-is_own : goal.returns-then-is_own
returns-then-is_own c =
    let old = c.args.self.now in
    let lost = c.args.lost.now in
    let own = own_yes old.line c.args.packet.now (sym c.is_own.ensures ∙ c.if-is_own.true) in
    record {
      ends = c.pass.ensures.ends;
      passes = subst (λ (o : Option TimedPacket). PassesLine o lost old c.pass.new.self) (sym own)
          c.pass.ensures.passes;
      ended = c.pass.ensures.ended
          ∙ ap (λ (o : Option TimedPacket). c.args.ended.now.gaps.items
          ++ over_new old.line lost (gap_passed old.highest o)) (sym own);
    }

pub returns-else-is_own : goal.returns-else-is_own
returns-else-is_own c =
    let old = c.args.self.now in
    let lost = c.args.lost.now in
    let own = own_not old.line c.args.packet.now (sym c.is_own.ensures ∙ c.if-is_own.false) in
    record {
      ends = ends_none 1 old old c.args.ended.now (λ gaps are. are) refl;
      passes = subst (λ (o : Option TimedPacket). PassesLine o lost old old) (sym own)
          (passes_none lost old);
      ended = sym (append-nil c.args.ended.now.gaps.items)
          ∙ ap (λ (o : Option TimedPacket). c.args.ended.now.gaps.items
          ++ over_new old.line lost (gap_passed old.highest o)) (sym own);
    }
