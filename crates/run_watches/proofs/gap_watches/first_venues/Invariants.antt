use Rattle.std.proofs.Common.{◌≡◌, map}
use Rattle.std.specs.List.{range_with_len}
use Rattle.run_watches.specs.RunLines.{watched_venue}
use Rattle.run_watches.proofs.gap_watches.first_venues.Given as goal

abbrev pub invariant-loop-place : goal.invariant-loop-place
invariant-loop-place l = map watched_venue l.gaps.items ≡ range_with_len 0 l.place
