use Rattle.fifo_lane.proofs.Moves.{pops, receiver_learns}
use Rattle.fifo_lane.proofs.receiver.Receiver.pop.Goals as goal

pub pop_as-requires-clause-rule : goal.pop_as-requires-clause-rule
pop_as-requires-clause-rule g c = (
  pops g.R.LaneRule.may_send g.R.LaneRule.prefix _ _
      c.self.invariant.1,
  receiver_learns g.R.LaneRule.may_send g.R.LaneRule.prefix
      _ _ c.self.invariant.1,
)
