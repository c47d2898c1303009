use Rattle.packet_capture.proofs.OptionSteps.{so_far, one_more, at_end, at_cut}
use Rattle.packet_capture.proofs.interface.with_options.Goals as goal

pub loop-code-init : goal.loop-code-init
loop-code-init c = so_far _ _ _

pub loop-code-preserved : goal.loop-code-preserved
loop-code-preserved c = one_more _ _ _ _ _ _ _ _ c.loop-code.invariant c.in-Found.ensures.0
    c.in-Found.ensures.1 c.with_option-interface.ensures

pub returns-in-End-clause-found : goal.returns-in-End-clause-found
returns-in-End-clause-found c = at_end _ _ _ _ _ c.loop-code.invariant c.in-End.ensures

pub returns-in-Cut-clause-cut : goal.returns-in-Cut-clause-cut
returns-in-Cut-clause-cut c = at_cut _ _ _ _ _ c.loop-code.invariant c.in-Cut.ensures
