use Rattle.fifo_lane.proofs.Moves.{pops}
use Rattle.fifo_lane.proofs.receiver.Receiver.try_pop.Goals as goal

pub try_pop_as-requires-clause-rule : goal.try_pop_as-requires-clause-rule
try_pop_as-requires-clause-rule g c = pops g.R.LaneRule.may_send
    g.R.LaneRule.prefix _ _ c.self.invariant.1
