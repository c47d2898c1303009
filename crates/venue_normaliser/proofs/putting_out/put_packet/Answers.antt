use Rattle.std.proofs.Common.{◌∙◌, ◌+◌, length, ap, sym, arith}
use Rattle.venue_normaliser.proofs.Making.{amid_none, amid_more, amid_all}
use Rattle.venue_normaliser.proofs.putting_out.put_packet.Goals as goal

pub loop-message-init : goal.loop-message-init
loop-message-init c =
    let n = ap length c.messages-messages.ensures.value in
    let v = c.number-first.ensures.value in
    let i = c.number-first.ensures.content.in_range in
    record {
      room = omega arith;
      amid = amid_none _ _ _ _ _ (sym c.messages-messages.ensures.value);
    }

pub overflow_add-place : goal.overflow_add-place
overflow_add-place c = let s = ap length c.in-Some.ensures.steps
    in let r = c.loop-message.invariant.room in omega arith

pub loop-message-preserved : goal.loop-message-preserved
loop-message-preserved c =
    let s = ap length c.in-Some.ensures.steps in
    let r = c.loop-message.invariant.room in
    let v = c.number-first.ensures.value in
    record {
      room = omega arith;
      amid = amid_more _ _ _ c.in-Some.message.now c.args.packet.now.number
          (c.number-first.result + c.loop-message.place) c.loop-message.place _ _ _ _ _ _
          c.loop-message.invariant.amid
          c.in-Some.ensures.steps (omega arith) c.in_ok-put_message.ensures.put;
    }

pub returns-clause-put : goal.returns-clause-put
returns-clause-put c =
    amid_all _ _ _ _ _ _ _ _ c.loop-message.invariant.amid c.in_default.ensures.steps.0

pub returns-clause-keys : goal.returns-clause-keys
returns-clause-keys c = c.loop-message.invariant.amid.puts.keys

pub returns-in_err-put_message-clause-keys : goal.returns-in_err-put_message-clause-keys
returns-in_err-put_message-clause-keys c =
    c.put_message.ensures.keys ∙ c.loop-message.invariant.amid.puts.keys
