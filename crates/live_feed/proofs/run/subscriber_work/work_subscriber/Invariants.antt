use Rattle.live_feed.specs.run.Runs.{HasPolled}
use Rattle.live_feed.proofs.run.subscriber_work.work_subscriber.Given as goal

abbrev pub invariant-loop : goal.invariant-loop
invariant-loop g l =
    (goal.iterator-loop g).can_next l.iterator' × (goal.iterator-loop g).is_finite l.iterator'
    × HasPolled l.fn.log l.log
