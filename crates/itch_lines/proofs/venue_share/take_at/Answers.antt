use Rattle.std.proofs.Common.{◌∙◌, sym}
use Rattle.itch_lines.proofs.Given.{same_venue}
use Rattle.itch_lines.proofs.venue_share.take_at.Goals as goal

pub returns-clause-took : goal.returns-clause-took
returns-clause-took c =
    let done = c.in_ok-done.ensures in
    let was = c.show_lock_invariant.ensures done.sound.0 in
    record {
      old = c.args.cell.now;
      was = was;
      venue_is = sym c.venue.ensures
          ∙ same_venue c.venue.result c.args.venue c.ne.result c.ne.ensures c.if-ne.false;
      new = c.take.new.self;
      is = c.show_lock_invariant-2.ensures done.sound.1;
      takes = done.took was.packets was.put was.fits was.out;
    }
