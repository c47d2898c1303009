use Rattle.std.proofs.Common.{◌≡◌}
use Rattle.live_feed.proofs.run.attendant.RunView.await_notice.Given as goal

abbrev pub invariant-loop : goal.invariant-loop
invariant-loop g l =
    (goal.iterator-loop g).can_next l.iterator' × (goal.iterator-loop g).is_finite l.iterator'
    × (l.log ≡ l.fn.log)
