use Rattle.venue_normaliser.proofs.Keeping.{is_stored}
use Rattle.venue_normaliser.proofs.message_slots.put.Goals as goal

pub returns-clause-after : goal.returns-clause-after
returns-clause-after c =
    rw c.place_of-place.ensures.is (is_stored c.args.slots.now c.args.number c.args.message.now
    c.slot_of.result c.requires c.slot_of.ensures.number c.slot_of.ensures.bytes)
