use Rattle.fifo_lane.proofs.Moves.{parts}
use Rattle.fifo_lane.proofs.making.part.Goals as goal

pub another-requires-clause-rule : goal.another-requires-clause-rule
another-requires-clause-rule g c = parts g.R.LaneRule.may_send g.R.LaneRule.empty _
    _ _ _ c.requires.pass.1
