use Rattle.std.proofs.Common.{rules}
use Rattle.udp_listening.proofs.listen.print_report.Goals as goal

pub returns : goal.returns
returns g c = record {
  said = c.write_report_lines.new.errors;
  says = c.write_report_lines.ensures;
  prints = search rules;
}
