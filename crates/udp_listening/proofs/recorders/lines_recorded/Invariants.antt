use Rattle.std.proofs.Common.{◌≡◌, All, map}
use Rattle.udp_listening.specs.Bound.{HasRecorder, bound_line}
use Rattle.udp_listening.proofs.recorders.lines_recorded.Given as goal

abbrev pub invariant-loop-bound : goal.invariant-loop-bound
invariant-loop-bound l =
    goal.iterator-loop-bound.can_next l.bound-iterator
    × goal.iterator-loop-bound.is_finite l.bound-iterator
    × (map bound_line l.recorded.items ≡ map bound_line l.yielded)
    × All HasRecorder l.recorded.items
