use Rattle.std.proofs.Common.{sym, ◌∙◌}
use Rattle.itch_book.proofs.Stored.{free_slot}
use Rattle.itch_book.proofs.StoredBeyond.{none_counted}
use Rattle.itch_book.proofs.StoredOrders.{stored_beyond, stored_held}
use Rattle.itch_book.proofs.buckets.Buckets.get.Goals as goal

pub returns-in-Some : goal.returns-in-Some
unfolding free_slot
returns-in-Some c =
    rw c.as_slice-slots.ensures.value (sym (stored_held c.args.self.now.mask
    c.args.self.now.slots.items c.args.self.now.beyond c.in-Some.at c.args.reference free_slot
    c.requires (rw c.as_slice-slots.ensures.value at c.in-Some.ensures)))

pub returns-then-slots-first_place-eq0 : goal.returns-then-slots-first_place-eq0
unfolding free_slot
returns-then-slots-first_place-eq0 c =
    sym (stored_beyond c.args.self.now.slots.items c.args.self.now.beyond c.args.reference
    (rw c.as_slice-slots.ensures.value at c.in_default.ensures)
    ∙ none_counted c.args.self.now.mask c.args.self.now.slots.items c.args.self.now.beyond
    c.args.reference c.first_place.result free_slot c.requires c.first_place.ensures.first
    (rw c.as_slice-slots.ensures.value at c.if-slots-first_place-eq0.true))

pub returns : goal.returns
returns c =
    c.get.ensures ∙ sym (stored_beyond c.args.self.now.slots.items c.args.self.now.beyond
    c.args.reference (rw c.as_slice-slots.ensures.value at c.in_default.ensures))
