use Rattle.std.proofs.Common.{◌∙◌, sym}
use Rattle.itch_lines.proofs.Given.{same_venue}
use Rattle.itch_lines.proofs.venue_share.end_at.Goals as goal

pub returns : goal.returns
returns c =
    let at = sym c.venue.ensures
    ∙ same_venue c.venue.result c.args.venue c.ne.result c.ne.ensures c.if-ne.false in
    record {
      state = c.args.cell.now;
      was = c.show_lock_invariant.ensures;
      state_is = at;
      venue_is = c.end.ensures.venue ∙ at;
      given_up = c.end.ensures.given_up;
      missing = c.end.ensures.missing;
      failed = c.end.ensures.failed;
    }
