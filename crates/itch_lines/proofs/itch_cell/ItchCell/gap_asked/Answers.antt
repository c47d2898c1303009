use Rattle.std.proofs.Common.{None, refl}
use Rattle.venue_normaliser.specs.Outputs.{from_start}
use Rattle.itch_lines.proofs.Given.{gap_is_asked, none_is_asked}
use Rattle.itch_lines.proofs.itch_cell.ItchCell.gap_asked.Goals as goal

pub returns-then-has_given_up : goal.returns-then-has_given_up
returns-then-has_given_up c = rw (← c.self.view_is) (λ packets fits.
    none_is_asked c.self.inside.venue.normaliser packets c.has_given_up.result None
    (c.has_given_up.ensures from_start packets fits) c.if-has_given_up.true refl)

pub returns-else-has_given_up : goal.returns-else-has_given_up
returns-else-has_given_up c = rw (← c.self.view_is) (λ packets fits.
    gap_is_asked c.self.inside.venue.normaliser packets c.has_given_up.result c.gap.result
    c.gap.result (c.has_given_up.ensures from_start packets fits) c.if-has_given_up.false
    (c.gap.ensures from_start packets fits) refl)
