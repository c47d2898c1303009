use Rattle.text_out.specs.Members.{writing_of}
use Rattle.std.proofs.Common.{◌≡◌, Ok}
use Rattle.capture_records.specs.Formats.{TimedRecord}
use Rattle.normalising.specs.Keeping.{IsSameRun, PutsInFirst}
use Rattle.normalising.proofs.normalised_venues.NormalisedVenues.give_up_overdue.Given as goal

abbrev pub invariant-loop-place : goal.invariant-loop-place
invariant-loop-place g l = record {
  same : IsSameRun l.fn.self l.self;
  puts_in : (r : TimedRecord) → r.time ≡ l.fn.time
      → PutsInFirst (writing_of g.W.TextOut) r l.fn.self l.self l.fn.writer l.writer (Ok (tt {0}));
}
