use Rattle.std.proofs.Common.{◌≡◌, None, sym, ◌∙◌}
use Rattle.venue_lines.specs.Sections.{RequestsGap}
use Rattle.venue_lines.proofs.CellMoves.{at_venue}
use Rattle.venue_lines.proofs.Statuses.{same_venue}
use Rattle.venue_lines.proofs.calls.due_in.Goals as goal

pub returns : goal.returns
returns g c =
    let same = same_venue c.venue.result c.args.venue c.ne.result c.ne.ensures c.if-ne.false in
    let request = c.due_after-request.result in
    at_venue g.G.Genuine g.N.FeedName.lanes c.args.venue
    (RequestsGap c.args.now_ms c.args.wait_ms request)
    (request ≡ None)
    c.args.cell.now c.due_after-request.new.self c.show_lock_invariant.ensures
    (sym c.venue.ensures ∙ same)
    c.show_lock_invariant-2.ensures c.due_after-request.ensures
