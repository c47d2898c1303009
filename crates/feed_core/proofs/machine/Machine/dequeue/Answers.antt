use Rattle.std.proofs.Common.{◌<◌, length, subst, sym, rules}
use Rattle.feed_core.specs.Fitting.{MachineView, FitsWorld}
use Rattle.feed_core.proofs.MachineMoves.{dequeue_step}
use Rattle.feed_core.proofs.machine.Machine.dequeue.Goals as goal

pub returns-clause-step : goal.returns-clause-step
returns-clause-step c = λ s w f.
    let lt : c.index-place.result < length c.self.inside.lanes.items = search rules in
    dequeue_step s _ w c.args.id c.index-place.result c.index_mut-lane.result.now c.dequeue.new.lane
    c.index-place.ensures.value lt c.index_mut-lane.ensures.value
    (subst (λ (m : MachineView). FitsWorld s m w) (sym c.self.view_is) f) c.dequeue.result
    c.dequeue.ensures.comes c.dequeue.ensures.others
