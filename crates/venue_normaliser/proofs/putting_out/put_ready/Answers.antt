use Rattle.std.proofs.Common.{◌∙◌, refl, sym}
use Rattle.line_arbiter.specs.laws.FitsHistory.{keeping_all_but_sent_is_reflexive, keeping_all_but_sent_is_transitive}
use Rattle.venue_normaliser.proofs.Readying.{open_before, up_to_none, up_to_more, ready_end, ready_none}
use Rattle.venue_normaliser.proofs.putting_out.put_ready.Goals as goal

pub loop-ready-init : goal.loop-ready-init
loop-ready-init c = record {
  kept = keeping_all_but_sent_is_reflexive;
  keys = refl;
  each = λ P fits keeps. up_to_none P _ _ _ fits;
}

pub loop-ready-preserved : goal.loop-ready-preserved
loop-ready-preserved c = record {
  kept = keeping_all_but_sent_is_transitive c.loop-ready.invariant.kept
      c.in-Some.ensures.after.kept;
  each = λ P fits keeps.
      let so = c.loop-ready.invariant.each P fits keeps in
      up_to_more P _ _ _ _ _ _ _ _ _ _ c.in-Some.ready c.message_of-message.result.now
      keeps so c.in-Some.ensures.value (rw c.if-is_end.false at c.is_end.ensures)
      (open_before c.in-Some.ensures.over) c.in-Some.ensures.after.sent
      (c.in-Some.ensures.fits P so.lines) c.message_of-message.ensures
      c.in-Some.ensures.number c.in_ok-put_message.ensures.put;
  keys = c.in_ok-put_message.ensures.keys ∙ c.loop-ready.invariant.keys;
}

pub returns-clause-put : goal.returns-clause-put
returns-clause-put c =
    let left = rw c.in_default.is at c.take_ready.ensures.left in
    rw left (λ P fits keeps. ready_none P _ _ _ _ _ _ _ keeps
    c.loop-ready.invariant.kept (c.loop-ready.invariant.each P fits keeps)
    (sym c.in_default.is ∙ c.take_ready.ensures.value))

pub returns-then-is_end-clause-put : goal.returns-then-is_end-clause-put
returns-then-is_end-clause-put c = λ P fits keeps.
    let so = c.loop-ready.invariant.each P fits keeps in
    ready_end P _ _ _ _ _ _ _ _ _ c.in-Some.ready keeps
    (keeping_all_but_sent_is_transitive c.loop-ready.invariant.kept c.in-Some.ensures.after.kept)
    so c.in-Some.ensures.value (rw c.if-is_end.true at c.is_end.ensures)
    (open_before c.in-Some.ensures.over) c.in-Some.ensures.after.sent
    (c.in-Some.ensures.fits P so.lines) c.in_ok-put_out.ensures
