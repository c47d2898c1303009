use Rattle.feed_core.proofs.MachineMoves.{reach_next}
use Rattle.feed_core.proofs.machine.Machine.take_all.Goals as goal

pub loop-event-preserved : goal.loop-event-preserved
loop-event-preserved g c = record {
  used = c.in_ok-done.ensures.used;
  reached = λ s filters f.
      reach_next s c.loop-event.self c.step.new.self c.args.events.now c.loop-event.event-index
      c.event-item.result c.loop-event.outcomes.items c.push.new.self.items c.in_ok-done.done
      c.loop-event-test.true c.event-item.is c.in_ok-push.ensures.items
      (c.loop-event.invariant.reached s filters f)
      (λ v h. c.in_ok-done.ensures.step s v filters h);
}
