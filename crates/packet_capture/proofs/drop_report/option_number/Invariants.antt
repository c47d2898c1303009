use Rattle.std.proofs.Common.{length}
use Rattle.packet_capture.proofs.OptionNumbers.{NumberLeft}
use Rattle.packet_capture.proofs.drop_report.option_number.Given as goal

abbrev pub invariant-options : goal.invariant-options
invariant-options l = NumberLeft l.order l.code l.bytes l.rest

abbrev pub decreases-options : goal.decreases-options
decreases-options l = length l.rest
