use Rattle.std.proofs.Common.{◌≡◌, map}
use Rattle.live_feed.specs.run.Wholes.{line_report}
use Rattle.live_feed.proofs.run.whole.parted.Given as goal

abbrev pub invariant-loop-end : goal.invariant-loop-end
invariant-loop-end g l =
    (goal.iterator-loop-end g).can_next l.end-iterator
    × (goal.iterator-loop-end g).is_finite l.end-iterator
    × (l.seats.items ≡ map (λ e. e.seat) l.yielded)
    × (l.lines.items ≡ map line_report l.yielded)
