use Rattle.std.proofs.Common.{◌+◌, length, ap, sym, arith}
use Rattle.venue_normaliser.proofs.Keeping.{keeps_all, keeps_none, keeps_step}
use Rattle.venue_normaliser.proofs.message_slots.keep_packet.Goals as goal

pub loop-message-init : goal.loop-message-init
loop-message-init c =
    let n = ap length c.messages-messages.ensures.value in
    let v = c.number-first.ensures.value in
    let i = c.number-first.ensures.content.in_range in
    record {
      room = omega arith;
      kept = keeps_none _ _ _ _ (sym c.messages-messages.ensures.value);
    }

pub overflow_add-place : goal.overflow_add-place
overflow_add-place c = let s = ap length c.in-Some.ensures.steps
    in let r = c.loop-message.invariant.room in omega arith

pub keep-requires : goal.keep-requires
keep-requires c =
    let l = c.loop-message.invariant.kept.length_is in let s = c.requires in omega arith

pub loop-message-preserved : goal.loop-message-preserved
loop-message-preserved c =
    let s = ap length c.in-Some.ensures.steps in
    let r = c.loop-message.invariant.room in
    let v = c.number-first.ensures.value in
    record {
      room = omega arith;
      kept = keeps_step _ c.args.packet.now _ _ _ _ _ c.in-Some.message.now c.loop-message.place
          (c.number-first.result + c.loop-message.place) c.loop-message.invariant.kept
          c.in-Some.ensures.steps (omega arith)
          c.number-first.ensures.content.from_one c.keep.ensures.left c.keep.ensures.kept
          c.keep.ensures.count;
    }

pub returns-clause-kept : goal.returns-clause-kept
returns-clause-kept c = keeps_all _ _ _ _ _ _ c.loop-message.invariant.kept
    c.in_default.ensures.steps.0

pub returns-clause-count : goal.returns-clause-count
returns-clause-count c = c.loop-message.invariant.kept.length_is
