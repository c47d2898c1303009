use Rattle.std.proofs.Common.{◌∙◌}
use Rattle.crossbeam_queue.specs.Passes.{view}
use Rattle.fifo_lane.proofs.Moves.{drains, both_learn}
use Rattle.fifo_lane.proofs.Nexts.{stays_settled, nexts}
use Rattle.fifo_lane.proofs.settled.Settled.next.Goals as goal

pub pop_as-requires-clause-rule : goal.pop_as-requires-clause-rule
pop_as-requires-clause-rule g c =
    let i = c.self.invariant in (
      drains g.R.LaneRule.may_send g.R.LaneRule.prefix _ _ i.1 i.2,
      both_learn g.R.LaneRule.may_send _ _ i.1 i.2,
    )

pub invariant_of-self : goal.invariant_of-self
invariant_of-self g c =
    let i = c.self.invariant in
    let q = c.pop_as.ensures.queue in
    let k = stays_settled g.R.LaneRule.may_send _ _ (view c.pop_as.new.pass)
    c.pop_as.ensures.rule (i.1, i.2, i.3) in
    ((q.0 ∙ i.0.0, q.2 ∙ i.0.1), k.0, k.1, k.2)

pub returns : goal.returns
returns g c = rw (← c.self.view_is) (nexts g.R.LaneRule.may_send c.pop_as.result
    (view c.self.inside.pass) (view c.pop_as.new.pass) c.pop_as.ensures.rule)
