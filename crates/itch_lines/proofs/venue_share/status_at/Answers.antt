use Rattle.std.proofs.Common.{◌∙◌, sym}
use Rattle.itch_lines.proofs.Given.{same_venue, shown_by}
use Rattle.itch_lines.proofs.venue_share.status_at.Goals as goal

pub returns : goal.returns
returns c = shown_by c.args.venue c.args.cell.now c.status.result
    (sym c.venue.ensures
    ∙ same_venue c.venue.result c.args.venue c.ne.result c.ne.ensures c.if-ne.false)
    c.show_lock_invariant.ensures c.status.ensures.shows c.status.ensures.given_up
    c.status.ensures.failed
