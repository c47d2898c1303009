use Rattle.std.proofs.Common.{◌≡◌, take}
use Rattle.udp_listening.specs.Reports.{read_out_lines}
use Rattle.udp_listening.proofs.listen_report.read_out_in.Given as goal

abbrev pub invariant-loop-line : goal.invariant-loop-line
invariant-loop-line g l =
    l.read_out.items ≡ read_out_lines (take l.line-index l.lines)
