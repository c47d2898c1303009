use Rattle.std.proofs.Common.{◌≡◌, sym, ◌∙◌}
use Rattle.venue_lines.proofs.Statuses.{same_venue, shows_some_cell}
use Rattle.venue_lines.proofs.venue_reading.status_in.Goals as goal

pub returns-clause-status : goal.returns-clause-status
returns-clause-status g c =
    let same = same_venue c.venue.result c.args.venue c.ne.result c.ne.ensures c.if-ne.false in
    let here : c.args.locked.now.cell.arbiter.venue ≡ c.args.venue = sym c.venue.ensures ∙ same in
    shows_some_cell g.G.Genuine g.N.FeedName.lanes c.args.venue c.args.locked.now.cell c.of.result
    c.show_lock_invariant.ensures here c.of.ensures.sent c.of.ensures.shows
