use Rattle.std.proofs.Common.{length}
use Rattle.packet_capture.proofs.OptionSteps.{SoFar}
use Rattle.packet_capture.proofs.interface.with_options.Given as goal

abbrev pub invariant-loop-code : goal.invariant-loop-code
invariant-loop-code l = SoFar l.order l.bytes l.rest l.fn.bare l.interface

abbrev pub decreases-loop-code : goal.decreases-loop-code
decreases-loop-code l = length l.rest
