use Rattle.std.proofs.Common.{sym, subst}
use Rattle.feed_core.specs.Fitting.{MachineView, HasReached}
use Rattle.feed_core.proofs.WholeMachine.{finished}
use Rattle.feed_core.proofs.machine.Machine.into_world.Goals as goal

pub returns : goal.returns
returns c = λ s es r.
    rw c.new.ensures (finished s es c.args.outcomes.items _ _
    (subst (λ (m : MachineView). HasReached s es c.args.outcomes.items m) (sym c.self.view_is)
    r) c.in_ok-finish_all.ensures)
