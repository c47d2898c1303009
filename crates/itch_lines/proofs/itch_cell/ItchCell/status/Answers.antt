use Rattle.venue_normaliser.specs.Outputs.{from_start}
use Rattle.itch_lines.proofs.itch_cell.ItchCell.status.Goals as goal

pub returns-clause-shows : goal.returns-clause-shows
returns-clause-shows c =
    let venue = rw (← c.self.view_is) at c.venue.ensures in
    let asked = rw (← c.self.view_is) at c.gap_asked.ensures in
    rw (← c.self.view_is) (λ packets fits. record {
      venue = venue;
      ordinal = c.ordinal.ensures;
      session = c.session.ensures;
      cursors = c.status.ensures from_start packets fits;
      gap = asked packets fits;
    })
