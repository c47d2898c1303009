use Rattle.std.proofs.Common.{◌≡◌, ◌+◌, List, length, ap, refl, subst, ◌∙◌, arith}
use Rattle.std.specs.Prelude.{ℕ, ◌∷◌, [], map, Err}
use Rattle.feed_types.specs.declared.item.Item.{Item}
use Rattle.std.proofs.lemmas.Result.{err_from_is_err_and}
use Rattle.feed_types.specs.Sessions.{numbered_from}
use Rattle.quote_payload.specs.Payload.{item_of}
use Rattle.feed_text.specs.ReplayEvents.{item_taken}
use Rattle.feed_text.specs.ReplayStates.{EmitsInto, state_of_replay}
use Rattle.feed_text.proofs.Tales.{SinkLaws, laws_by, took_none, took_one, took_all, took_stop}
use Rattle.feed_text.proofs.Passing.{one_more}
use Rattle.feed_text.proofs.venue.publish_messages.Given.{Over}
use Rattle.feed_text.proofs.venue.publish_messages.Goals as goal

laws_of : (g : Over)
    → SinkLaws (record { takes = g.K.EventSink.takes; fails = g.K.EventSink.fails })
laws_of g = laws_by g.met.K.EventSink.takes_none g.met.K.EventSink.takes_more
    g.met.K.EventSink.fails_after g.met.K.EventSink.fails_longer

pub loop-message-init : goal.loop-message-init
loop-message-init g c =
    let n = ap length c.messages-messages.ensures.value in
    let v = c.number-first.ensures.value in
    let i = c.number-first.ensures.content.in_range in
    let e : c.number-first.result + 0 ≡ c.args.packet.now.number = omega arith in
    record {
      room = omega arith;
      count = omega arith;
      venues = refl;
      emitted = rw (e, c.messages-messages.ensures.value)
          (took_none (laws_of g) _ (state_of_replay c.args.output.now));
    }

pub overflow_add-numbered : goal.overflow_add-numbered
overflow_add-numbered g c = let s = ap length c.in-Some.ensures.steps
    in let r = c.loop-message.invariant.room in omega arith

pub overflow_add-place : goal.overflow_add-place
overflow_add-place g c = let s = ap length c.in-Some.ensures.steps
    in let r = c.loop-message.invariant.room in omega arith

pub loop-message-preserved : goal.loop-message-preserved
loop-message-preserved g c =
    let s = ap length c.in-Some.ensures.steps in
    let r = c.loop-message.invariant.room in
    let n = c.loop-message.invariant.count in
    let one = rw c.read_item.ensures.value at c.in_ok-take_item.ensures in
    record {
      room = omega arith;
      count = omega arith;
      venues = one.venues ∙ c.loop-message.invariant.venues;
      emitted = took_one (laws_of g) _ _
          (one_more c.args.venue (c.number-first.result + c.loop-message.place)
          (c.number-first.result + (c.loop-message.place + 1)) c.in-Some.message.now
          c.loop-message.messages c.next.new.self (omega arith) c.in-Some.ensures.steps)
          c.loop-message.invariant.emitted one;
    }

pub returns : goal.returns
returns g c =
    took_all
    (ap (λ (xs : List (List ℕ)). map (item_taken c.args.venue)
    (numbered_from (c.number-first.result + c.loop-message.place) (map item_of xs)))
    c.in_default.ensures.steps.0)
    c.loop-message.invariant.emitted

pub returns-in_err-take_item : goal.returns-in_err-take_item
returns-in_err-take_item g c =
    let p = err_from_is_err_and c.from_residual.result c.from_residual.ensures.1 in
    rw (p.1, p.2)
    (took_stop (laws_of g) (state_of_replay c.take_item.new.self) _ _ c.in_err-take_item.field-0.0
    (one_more c.args.venue (c.number-first.result + c.loop-message.place)
    (c.number-first.result + (c.loop-message.place + 1)) c.in-Some.message.now
    c.loop-message.messages c.next.new.self (omega arith) c.in-Some.ensures.steps)
    c.loop-message.invariant.emitted
    (subst (λ (i : Item). EmitsInto (record {
      takes = g.K.EventSink.takes;
      fails =
          g.K.EventSink.fails;
    }) (state_of_replay c.loop-message.output)
    (item_taken c.args.venue (record {
      number = c.number-first.result + c.loop-message.place;
      item = i;
    }) ∷ []) (state_of_replay c.take_item.new.self) (Err c.in_err-take_item.field-0.0))
    c.read_item.ensures.value c.in_err-take_item.ensures))
