use Rattle.std.proofs.Common.{◌+◌, ◌≤◌, length}
use Rattle.venue_normaliser.specs.Inside.{HasStated}
use Rattle.venue_normaliser.proofs.snapshot.read_snapshot.Given as goal

abbrev pub invariant-loop-message : goal.invariant-loop-message
invariant-loop-message l = record {
  few : l.count + length l.rest ≤ length l.bytes;
  stated : HasStated l.count l.bytes l.rest;
}

abbrev pub decreases-loop-message : goal.decreases-loop-message
decreases-loop-message l = length l.rest
