use Rattle.std.proofs.Common.{◌≡◌, length, vec_capacity}
use Rattle.venue_lines.proofs.starting.locked.Given as goal

abbrev pub invariant-loop-start : goal.invariant-loop-start
invariant-loop-start g l =
    (goal.iterator-loop-start g).can_next l.start-iterator
    × (goal.iterator-loop-start g).is_finite l.start-iterator
    × (length l.venues.items ≡ length l.yielded)
    × (vec_capacity l.venues ≡ vec_capacity l.fn.venues)
