use Rattle.venue_normaliser.specs.Outputs.{from_start}
use Rattle.itch_lines.proofs.Given.{gap_once_ended, none_before_the_end}
use Rattle.itch_lines.proofs.itch_cell.ItchCell.gap_at_end.Goals as goal

pub returns-then-is_some : goal.returns-then-is_some
returns-then-is_some c =
    let asked = rw (← c.self.view_is) at c.gap_asked.ensures in
    rw (← c.self.view_is) (λ packets fits.
    gap_once_ended c.self.inside.venue.normaliser packets c.status.result c.is_some.result
    c.gap_asked.result (c.status.ensures from_start packets fits) c.is_some.ensures
    c.if-is_some.true (asked packets fits))

pub returns-else-is_some : goal.returns-else-is_some
returns-else-is_some c = rw (← c.self.view_is) (λ packets fits.
    none_before_the_end c.self.inside.venue.normaliser packets c.status.result c.is_some.result
    (c.status.ensures from_start packets fits) c.is_some.ensures c.if-is_some.false)
