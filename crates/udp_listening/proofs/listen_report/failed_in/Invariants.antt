use Rattle.std.proofs.Common.{◌≡◌, take}
use Rattle.udp_listening.specs.Reports.{failed_lines}
use Rattle.udp_listening.proofs.listen_report.failed_in.Given as goal

abbrev pub invariant-loop-line : goal.invariant-loop-line
invariant-loop-line g l =
    l.failed.items ≡ failed_lines (take l.line-index l.lines)
