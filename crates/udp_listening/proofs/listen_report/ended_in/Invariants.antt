use Rattle.std.proofs.Common.{◌≡◌, take}
use Rattle.udp_listening.specs.Reports.{ended_lines}
use Rattle.udp_listening.proofs.listen_report.ended_in.Given as goal

abbrev pub invariant-loop-line : goal.invariant-loop-line
invariant-loop-line g l =
    l.ended.items ≡ ended_lines (take l.line-index l.lines)
