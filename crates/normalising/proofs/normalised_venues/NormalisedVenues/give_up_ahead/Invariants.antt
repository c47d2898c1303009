use Rattle.text_out.specs.Members.{writing_of}
use Rattle.std.proofs.Common.{◌≡◌, Ok}
use Rattle.capture_records.specs.Formats.{TimedRecord}
use Rattle.capture_records.specs.Capture.{record_venue}
use Rattle.normalising.specs.Keeping.{IsSameRun, PutsInFirst}
use Rattle.normalising.proofs.normalised_venues.NormalisedVenues.give_up_ahead.Given as goal

abbrev pub invariant-loop : goal.invariant-loop
invariant-loop g l = record {
  same : IsSameRun l.fn.self l.self;
  puts_in : (r : TimedRecord) → l.venue ≡ record_venue r.what
      → PutsInFirst (writing_of g.W.TextOut) r l.fn.self l.self l.fn.writer l.writer (Ok (tt {0}));
}
