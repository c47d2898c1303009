use Rattle.std.proofs.Common.{◌≡◌, length}
use Rattle.hub_lanes.specs.Spares.{AreUnused}
use Rattle.hub_lanes.proofs.spares.new_spares.Given as goal

abbrev pub invariant-loop-id : goal.invariant-loop-id
invariant-loop-id l = AreUnused l.capacity l.spare.items × (length l.spare.items ≡ l.id)
