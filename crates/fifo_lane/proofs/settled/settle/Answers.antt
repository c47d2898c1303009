use Rattle.std.proofs.Common.{rules}
use Rattle.fifo_lane.proofs.Moves.{joins, both_learn}
use Rattle.fifo_lane.proofs.settled.settle.Goals as goal

pub absorb-requires-clause-rule : goal.absorb-requires-clause-rule
absorb-requires-clause-rule g c = joins g.R.LaneRule.may_send _ _ _ _
    c.into_parts-queue.ensures.pass.1 c.into_parts-other.ensures.pass.1

pub learn_as-requires-clause-rule : goal.learn_as-requires-clause-rule
learn_as-requires-clause-rule g c = both_learn g.R.LaneRule.may_send _ _
    (search rules) (search rules)
