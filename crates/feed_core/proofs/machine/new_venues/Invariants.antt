use Rattle.std.proofs.Common.{map, take}
use Rattle.feed_core.specs.Worlds.{new_venue}
use Rattle.feed_core.specs.Fitting.{FitVenues}
use Rattle.feed_core.proofs.machine.new_venues.Given as goal

abbrev pub invariant-loop-place : goal.invariant-loop-place
invariant-loop-place l = FitVenues l.window l.states.items (map new_venue (take l.place l.sessions))
