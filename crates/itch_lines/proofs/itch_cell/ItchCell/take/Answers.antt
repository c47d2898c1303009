use Rattle.item_packets.specs.Packed.{bytes_of_each}
use Rattle.itch_lines.proofs.Given.{given_after}
use Rattle.itch_lines.proofs.itch_cell.ItchCell.take.Goals as goal

pub invariant_of-self-in-Ok : goal.invariant_of-self-in-Ok
invariant_of-self-in-Ok c = λ sound.
    let was = c.self.invariant sound in
    given_after c.self.inside.venue.names.items c.args.line c.args.bytes.now
    c.self.inside.venue.normaliser c.take.new.self.normaliser was
    (bytes_of_each c.take.new.made.items) c.in-Ok.ensures.kept.0
    (c.in-Ok.ensures.takes was.packets was.put was.fits was.out)
