use Rattle.line_gaps.specs.Gaps.{is_missing}
use Rattle.line_gaps.proofs.RunCounts.{least_agrees}
use Rattle.line_gaps.proofs.venue_gaps.VenueGaps.first_missing.Goals as goal

pub returns : goal.returns
returns c = λ events fits whole.
    least_agrees _ (is_missing events) (fits.missing whole) _ (c.first.ensures (fits.order whole))
