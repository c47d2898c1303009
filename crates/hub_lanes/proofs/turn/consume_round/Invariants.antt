use Rattle.std.proofs.Common.{◌≡◌, ◌≤◌, None}
use Rattle.hub_lanes.proofs.Turns.{RoundUpTo}
use Rattle.hub_lanes.proofs.turn.consume_round.Given as goal

abbrev pub invariant-loop-step : goal.invariant-loop-step
invariant-loop-step g l =
    (l.done.consumed ≤ 64) × (l.done.refused ≡ None)
    × RoundUpTo g.G.Genuine g.N.FeedName.lanes l.first l.step l.done.consumed
    l.fn.core l.core
