use Rattle.std.proofs.Common.{◌<◌, length, subst, sym, rules}
use Rattle.feed_core.specs.Fitting.{MachineView, FitsWorld}
use Rattle.feed_core.proofs.MachineMoves.{renew_step}
use Rattle.feed_core.proofs.machine.Machine.renew.Goals as goal

pub returns-clause-step : goal.returns-clause-step
returns-clause-step c = λ s w f.
    let lt : c.index-place.result < length c.self.inside.venue_states.items = search rules in
    renew_step s _ w c.args.venue c.index-place.result c.index_mut-state.result.now c.renew.new.self
    c.index-place.ensures.value lt c.index_mut-state.ensures.value
    (subst (λ (m : MachineView). FitsWorld s m w) (sym c.self.view_is) f) c.args.session
    c.renew.result c.renew.ensures
