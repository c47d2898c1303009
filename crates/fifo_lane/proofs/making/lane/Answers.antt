use Rattle.fifo_lane.proofs.Moves.{makes}
use Rattle.fifo_lane.proofs.making.lane.Goals as goal

pub ruled-requires-clause-rule : goal.ruled-requires-clause-rule
ruled-requires-clause-rule g c = makes g.R.LaneRule.may_send g.R.LaneRule.empty
