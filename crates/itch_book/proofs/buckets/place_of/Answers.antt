use Rattle.itch_book.proofs.StoredOrders.{held_nowhere}
use Rattle.itch_book.proofs.buckets.place_of.Goals as goal

pub returns : goal.returns
returns c =
    held_nowhere c.args.mask c.args.slots.now c.args.reference c.first_place-first.result
    c.requires.home c.first_place-first.ensures.first c.if-is_held_at.ensures
    c.if-is_held_at-2.ensures c.if-is_held_at-3.ensures c.if-is_held_at-4.ensures
