use Rattle.hub_lanes.proofs.Offers.{OffersBelow}
use Rattle.hub_lanes.proofs.calls.offer_each.Given as goal

abbrev pub invariant-loop-place : goal.invariant-loop-place
invariant-loop-place g l = OffersBelow l.place l.offered l.unfinished l.fn.core l.core
