use Rattle.venue_lines.proofs.CellMoves.{new_kept}
use Rattle.venue_lines.proofs.cell.VenueCell.new.Goals as goal

pub invariant_of-result : goal.invariant_of-result
invariant_of-result g c =
    rw (c.new.ensures, c.new-2.ensures)
    (new_kept g.G.Genuine g.N.FeedName.lanes c.args.arbiter c.args.lane
    c.requires.arbiter c.requires.fits
    c.requires.lane.0 c.requires.named c.requires.lane.1 c.requires.sized)
