use Rattle.std.proofs.Common.{◌≡◌, map}
use Rattle.udp_listening.specs.Bound.{bound_line}
use Rattle.udp_listening.proofs.sockets.with_requests.Given as goal

abbrev pub invariant-loop-bound : goal.invariant-loop-bound
invariant-loop-bound l =
    goal.iterator-loop-bound.can_next l.bound-iterator
    × goal.iterator-loop-bound.is_finite l.bound-iterator
    × (map bound_line l.with.items ≡ map bound_line l.yielded)
