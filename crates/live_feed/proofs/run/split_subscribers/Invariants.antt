use Rattle.std.proofs.Common.{◌≡◌, map, length, vec_len, vec_capacity}
use Rattle.live_feed.proofs.run.split_subscribers.Given as goal

abbrev pub invariant-loop-subscriber : goal.invariant-loop-subscriber
invariant-loop-subscriber g l =
    (goal.iterator-loop-subscriber g).can_next l.subscriber-iterator
    × (goal.iterator-loop-subscriber g).is_finite l.subscriber-iterator
    × (l.logs.items ≡ map (λ subscriber. subscriber.log) l.yielded)
    × (vec_len l.logs ≡ length l.yielded) × (vec_len l.strategies ≡ length l.yielded)
    × (vec_capacity l.logs ≡ vec_capacity l.fn.logs)
    × (vec_capacity l.strategies ≡ vec_capacity l.fn.strategies)
