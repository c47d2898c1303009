use Rattle.std.proofs.Common.{◌≡◌, length}
use Rattle.live_feed.proofs.run.whole.all_subscribed.Given as goal

abbrev pub invariant-loop-subscription : goal.invariant-loop-subscription
invariant-loop-subscription g l =
    (goal.iterator-loop-subscription g).can_next l.subscription-iterator
    × (goal.iterator-loop-subscription g).is_finite l.subscription-iterator
    × (length l.subscribers.items ≡ length l.yielded)
