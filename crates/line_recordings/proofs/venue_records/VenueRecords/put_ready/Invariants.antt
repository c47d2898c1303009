use Rattle.line_recordings.specs.Recordings.{PutsRecords}
use Rattle.line_recordings.proofs.venue_records.VenueRecords.put_ready.Given as goal

abbrev pub invariant-loop : goal.invariant-loop
invariant-loop l = PutsRecords l.fn.self l.self l.fn.page l.page
