use Rattle.std.proofs.Common.{List, ◌+◌, length, ap, sym, subst, ◌∙◌, arith}
use Rattle.itch_book.specs.declared.slot.Slot.{Slot}
use Rattle.itch_book.specs.Slots.{AreStored, IsPut, stored_orders}
use Rattle.itch_book.proofs.StoredOrders.{none_beyond}
use Rattle.itch_book.proofs.StoredBeyond.{stored_put_beyond}
use Rattle.itch_book.proofs.buckets.Buckets.put_beyond.Goals as goal

pub put-requires : goal.put-requires
put-requires c =
    none_beyond c.args.self.now.mask c.args.self.now.slots.items c.args.self.now.beyond
    c.args.reference c.requires.stored c.requires.none

pub returns-clause-stored : goal.returns-clause-stored
returns-clause-stored c =
    let d = c.index.result.now in
    subst (λ (xs : List Slot). AreStored c.args.self.now.mask xs c.put.new.self)
    (sym (c.set_beyond.ensures d))
    (stored_put_beyond c.args.self.now.mask c.args.self.now.slots.items c.args.self.now.beyond
    c.put.new.self c.args.reference c.args.order c.first_place-first.result c.in-Some.beyond d
    c.requires.stored
    (omega (
      arith,
      c.first_place-first.ensures.within,
      ap (λ (xs : List Slot). length xs)
          c.as_slice.ensures.value,
    ))
    c.first_place-first.ensures.first c.requires.none
    (c.in-Some.ensures.1 ∙ ap (λ (x : Slot). x.beyond + 1) c.index.ensures)
    c.in_ok-put.ensures.orders c.in_ok-put.ensures.sums c.in_ok-put.ensures.keys).0

pub returns-clause-put : goal.returns-clause-put
returns-clause-put c =
    let d = c.index.result.now in
    subst (λ (xs : List Slot). IsPut c.args.reference c.args.order
    (stored_orders c.args.self.now.slots.items c.args.self.now.beyond)
    (stored_orders xs c.put.new.self))
    (sym (c.set_beyond.ensures d))
    (stored_put_beyond c.args.self.now.mask c.args.self.now.slots.items c.args.self.now.beyond
    c.put.new.self c.args.reference c.args.order c.first_place-first.result c.in-Some.beyond d
    c.requires.stored
    (omega (
      arith,
      c.first_place-first.ensures.within,
      ap (λ (xs : List Slot). length xs)
          c.as_slice.ensures.value,
    ))
    c.first_place-first.ensures.first c.requires.none
    (c.in-Some.ensures.1 ∙ ap (λ (x : Slot). x.beyond + 1) c.index.ensures)
    c.in_ok-put.ensures.orders c.in_ok-put.ensures.sums c.in_ok-put.ensures.keys).1
