use Rattle.line_recordings.specs.Recordings.{IsUnchanged}
use Rattle.line_recordings.proofs.venue_records.VenueRecords.first.Given as goal

abbrev pub invariant-loop-kind : goal.invariant-loop-kind
invariant-loop-kind l = IsUnchanged l.fn.self l.self
