use Rattle.std.proofs.Common.{◌<◌, length, subst, sym, rules}
use Rattle.feed_core.specs.Fitting.{MachineView, FitsWorld}
use Rattle.feed_core.proofs.MachineMoves.{declare_step, if_ok}
use Rattle.feed_core.proofs.machine.Machine.declare.Goals as goal

pub returns-clause-step : goal.returns-clause-step
returns-clause-step c = if_ok c.declare.result _ _ (λ d comes s w f.
    let lt : c.args.venue < length c.self.inside.venue_states.items = search rules in
    declare_step s _ w c.args.venue c.args.on c.declare.new.journal lt
    (subst (λ (m : MachineView). FitsWorld s m w) (sym c.self.view_is) f) d comes
    c.declare.ensures.kept) c.declare.ensures.comes
