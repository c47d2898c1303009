use Rattle.std.proofs.Common.{◌≡◌, [], List, map, drop, length, refl, sym, subst, arith}
use Rattle.std.proofs.Math.ListN.{drop_of_length-le}
use Rattle.std.proofs.lemmas.Option.{slice_get_read}
use Rattle.std.proofs.lemmas.Result.{err_from_is_err_and}
use Rattle.nbbo_book.specs.declared.change.Change.{Change}
use Rattle.journal_book.specs.Changes.{notices_from}
use Rattle.event_sinks.specs.SinkEvents.{TimedEvent, at_time, told_best}
use Rattle.feed_text.proofs.Tales.{bests_rest}
use Rattle.feed_text.proofs.replay_sink.tell_bests.Goals as goal

pub loop-change-init : goal.loop-change-init
loop-change-init g c = record { took = λ end t. t; failed = λ end t. t; number = omega arith }

pub overflow_add-number : goal.overflow_add-number
overflow_add-number g c = record {
  fits = omega (
    arith,
    c.loop-change.invariant.number,
    c.loop-change-test.true,
    c.requires,
  );
}

pub loop-change-preserved : goal.loop-change-preserved
loop-change-preserved g c =
    let changes = c.args.latest.changes.now in
    let i = c.loop-change.change-index in
    let split = bests_rest c.args.time changes i c.loop-change.number c.change-item.result
    (sym (slice_get_read changes (length changes) i c.change-item.result refl
    c.loop-change-test.true c.change-item.is)) in
    record {
      took = λ end t. c.loop-change.invariant.took end
          (subst (λ (l : List TimedEvent). g.K.EventSink.takes c.loop-change.sink l end) (sym split)
          (g.met.K.EventSink.takes_more _ _ _ _ _ c.in_ok-take.ensures.took t));
      failed = λ end t. c.loop-change.invariant.failed end
          (subst (λ (l : List TimedEvent). g.K.EventSink.fails c.loop-change.sink l end) (sym split)
          (g.met.K.EventSink.fails_after _ _ _ _ _ c.in_ok-take.ensures.took t));
      number = omega (arith, c.loop-change.invariant.number);
    }

pub returns-in_err-take-clause-failed : goal.returns-in_err-take-clause-failed
returns-in_err-take-clause-failed g c =
    let p = err_from_is_err_and c.from_residual.result c.from_residual.ensures.1 in
    let changes = c.args.latest.changes.now in
    let i = c.loop-change.change-index in
    let split = bests_rest c.args.time changes i c.loop-change.number c.change-item.result
    (sym (slice_get_read changes (length changes) i c.change-item.result refl
    c.loop-change-test.true c.change-item.is)) in
    rw p.1 (c.loop-change.invariant.failed c.take.new.self
    (subst (λ (l : List TimedEvent). g.K.EventSink.fails c.loop-change.sink l c.take.new.self)
    (sym split)
    (g.met.K.EventSink.fails_longer _ _ _ _ c.in_err-take.ensures.failed)))

pub returns-clause-took : goal.returns-clause-took
returns-clause-took g c =
    let none : drop c.loop-change.change-index c.args.latest.changes.now ≡ [] = drop_of_length-le
    c.args.latest.changes.now c.loop-change-test.false in
    c.loop-change.invariant.took c.loop-change.sink
    (subst (λ (l : List Change). g.K.EventSink.takes c.loop-change.sink
    (at_time c.args.time (map told_best (notices_from c.loop-change.number l)))
    c.loop-change.sink) (sym none)
    (g.met.K.EventSink.takes_none c.loop-change.sink))
