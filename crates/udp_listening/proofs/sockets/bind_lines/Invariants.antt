use Rattle.std.proofs.Common.{◌≡◌, ◌++◌, drop, map}
use Rattle.udp_listening.specs.Bound.{asked_lines, bound_line}
use Rattle.udp_listening.proofs.sockets.bind_lines.Given as goal

abbrev pub invariant-loop-place : goal.invariant-loop-place
invariant-loop-place g l = map bound_line l.lines.items
    ++ asked_lines l.place (drop l.place l.settings.lines.items)
    ≡ asked_lines 0 l.settings.lines.items
