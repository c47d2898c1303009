use Rattle.std.proofs.Common.{◌∙◌, sym}
use Rattle.item_packets.specs.Packed.{bytes_of_each}
use Rattle.itch_lines.proofs.Given.{same_venue, skipped_possible}
use Rattle.itch_lines.proofs.venue_share.give_up_at.Goals as goal

pub returns-clause-gave : goal.returns-clause-gave
returns-clause-gave c =
    let given = c.in_ok-given.ensures in
    skipped_possible c.in_ok-given.given c.args.venue c.args.cell.now c.give_up_due.new.self
    (bytes_of_each c.give_up_due.new.made.items) c.show_lock_invariant.ensures
    c.show_lock_invariant-2.ensures
    (sym c.venue.ensures
    ∙ same_venue c.venue.result c.args.venue c.ne.result c.ne.ensures c.if-ne.false)
    given.gave given.sound
