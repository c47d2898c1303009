use Rattle.std.proofs.Common.{◌≡◌, map, ℕ}
use Rattle.live_feed.specs.subscriber.Logs.{SubscriberLogState}
use Rattle.live_feed.proofs.Sides.{UpTo}
use Rattle.live_feed.proofs.settle.agreeing.are_in_order.Given as goal

abbrev pub invariant-loop-place : goal.invariant-loop-place
invariant-loop-place g l = UpTo (λ (id : ℕ) (t : SubscriberLogState). t.id ≡ id) l.place
    (map (λ s. s.log) l.subscribers)
