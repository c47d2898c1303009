use Rattle.std.proofs.Common.{◌<◌, length, subst, sym, rules}
use Rattle.feed_core.specs.Fitting.{MachineView, FitsWorld}
use Rattle.feed_core.proofs.MachineMoves.{consume_step, if_ok_both}
use Rattle.feed_core.proofs.machine.Machine.consume.Goals as goal

pub returns-clause-step : goal.returns-clause-step
returns-clause-step c = if_ok_both c.consume.result _ _ _ (λ d comes only s w f.
    let lt : c.index-place.result < length c.self.inside.venue_states.items = search rules in
    consume_step s _ w c.args.venue c.index-place.result c.index_mut-state.result.now
    c.consume.new.state c.consume.new.journal c.index-place.ensures.value lt
    c.index_mut-state.ensures.value
    (subst (λ (m : MachineView). FitsWorld s m w) (sym c.self.view_is) f) d comes only
    c.consume.ensures.kept) c.consume.ensures.comes c.consume.ensures.state
