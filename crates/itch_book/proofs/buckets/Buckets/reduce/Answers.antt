use Rattle.std.proofs.Common.{ap, sym, ◌∙◌, Some}
use Rattle.itch_book.specs.declared.order.Order.{Order}
use Rattle.itch_book.proofs.Stored.{free_slot, stored_reduced}
use Rattle.itch_book.proofs.StoredOrders.{stored_held}
use Rattle.itch_book.proofs.buckets.Buckets.reduce.Goals as goal

pub reduce_beyond-requires-clause-apart : goal.reduce_beyond-requires-clause-apart
reduce_beyond-requires-clause-apart c =
    rw c.as_slice.ensures.value at c.in-None.ensures

pub returns-in-Some-clause-stored : goal.returns-in-Some-clause-stored
returns-in-Some-clause-stored c =
    (stored_reduced c.args.self.now.mask c.args.self.now.slots.items
    c.reduce_at.new.slots.items c.args.self.now.beyond c.in-Some.at c.args.reference c.args.shares
    c.requires (rw c.as_slice.ensures.value at c.in-Some.ensures) c.reduce_at.ensures.slots).0

pub returns-in-Some-clause-value : goal.returns-in-Some-clause-value
returns-in-Some-clause-value c =
    ap (λ (o : Order). Some o) (c.reduce_at.ensures.value free_slot)
    ∙ sym (stored_held c.args.self.now.mask c.args.self.now.slots.items c.args.self.now.beyond
    c.in-Some.at c.args.reference free_slot c.requires
    (rw c.as_slice.ensures.value at c.in-Some.ensures))

pub returns-in-Some-clause-reduced : goal.returns-in-Some-clause-reduced
returns-in-Some-clause-reduced c =
    (stored_reduced c.args.self.now.mask c.args.self.now.slots.items
    c.reduce_at.new.slots.items c.args.self.now.beyond c.in-Some.at c.args.reference c.args.shares
    c.requires (rw c.as_slice.ensures.value at c.in-Some.ensures) c.reduce_at.ensures.slots).1
