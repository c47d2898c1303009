use Rattle.std.proofs.Common.{◌<◌, length}
use Rattle.hub_lanes.specs.Offers.{SendsNotices}
use Rattle.hub_lanes.proofs.calls.offer_up_to.Given as goal

abbrev pub invariant-loop : goal.invariant-loop
invariant-loop g l =
    (goal.iterator-loop g).can_next l.iterator' × (goal.iterator-loop g).is_finite l.iterator'
    × (l.id < length l.core.journal.cursors)
    × SendsNotices l.id l.pushed l.fn.core l.core
