use Rattle.line_gaps.specs.VenueFits.{AreNewGaps}
use Rattle.line_gaps.proofs.venue_gaps.new_gaps.Given as goal

abbrev pub invariant-loop-place : goal.invariant-loop-place
invariant-loop-place l = AreNewGaps l.place l.venues.items
