use Rattle.std.proofs.Common.{◌≡◌, ◌+◌, map, length, vec_len, vec_capacity}
use Rattle.std.specs.Vec.Iter.{into_iter_len}
use Rattle.live_feed.proofs.run.rejoin_subscribers.Given as goal

abbrev pub invariant-loop-log : goal.invariant-loop-log
invariant-loop-log g l =
    (goal.iterator-loop-log g).can_next l.log-iterator
    × (goal.iterator-loop-log g).is_finite l.log-iterator
    × (map (λ subscriber. subscriber.log) l.subscribers.items ≡ l.yielded)
    × (vec_len l.subscribers ≡ length l.yielded)
    × (into_iter_len l.cells + length l.yielded ≡ vec_len l.fn.logs)
    × (vec_capacity l.subscribers ≡ vec_capacity l.fn.subscribers)
