use Rattle.std.proofs.Common.{◌<◌, length, subst, sym, rules}
use Rattle.feed_core.specs.Fitting.{MachineView, FitsWorld}
use Rattle.feed_core.proofs.MachineMoves.{offer_step, if_ok}
use Rattle.feed_core.proofs.machine.Machine.offer.Goals as goal

pub returns-clause-step : goal.returns-clause-step
returns-clause-step g c = if_ok c.offer.result _ _ (λ d left s w f.
    let lt : c.index-place.result < length c.self.inside.lanes.items = search rules in
    offer_step s _ w c.args.id c.index-place.result c.index_mut-lane.result.now c.offer.new.lane
    c.index-place.ensures.value lt c.index_mut-lane.ensures.value
    (subst (λ (m : MachineView). FitsWorld s m w) (sym c.self.view_is) f) c.offer.new.journal d left
    c.offer.ensures.stays) c.offer.ensures.offers
