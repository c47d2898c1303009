use Rattle.std.proofs.Common.{◌≡◌, ℕ, length, vec_len, vec_capacity}
use Rattle.live_feed.specs.run.Runs.{Pairwise}
use Rattle.live_feed.proofs.lists.made_of_each.Given as goal

abbrev pub invariant-loop-item : goal.invariant-loop-item
invariant-loop-item g l =
    (goal.iterator-loop-item g).can_next l.item-iterator
    × (goal.iterator-loop-item g).is_finite l.item-iterator
    × Pairwise (λ item one. (place : ℕ) × goal.F-post g l.make place item one) l.yielded
    l.made.items
    × (vec_len l.made ≡ length l.yielded)
    × (vec_capacity l.made ≡ vec_capacity l.fn.made)
