use Rattle.std.proofs.Common.{List, ◌-◌, length, ap, sym, subst, ◌∙◌, arith, refl}
use Rattle.itch_book.specs.declared.slot.Slot.{Slot}
use Rattle.itch_book.specs.Slots.{AreStored, IsReduced, stored_orders}
use Rattle.itch_book.proofs.StoredBeyond.{none_counted, reduced_none_beyond, stored_remove_beyond, stored_set_beyond}
use Rattle.itch_book.proofs.StoredOrders.{stored_beyond}
use Rattle.itch_book.proofs.buckets.Buckets.reduce_beyond.Goals as goal

pub returns-then-beyond-eq0-clause-value : goal.returns-then-beyond-eq0-clause-value
returns-then-beyond-eq0-clause-value c =
    (reduced_none_beyond c.args.self.now.slots.items c.args.self.now.beyond c.args.reference
    c.args.shares c.requires.apart
    (none_counted c.args.self.now.mask c.args.self.now.slots.items c.args.self.now.beyond
    c.args.reference c.first_place-first.result c.index.result.now c.requires.stored
    c.first_place-first.ensures.first
    (ap (λ (x : Slot). x.beyond) (sym c.index.ensures) ∙ c.if-beyond-eq0.true))).0

pub returns-then-beyond-eq0-clause-reduced : goal.returns-then-beyond-eq0-clause-reduced
returns-then-beyond-eq0-clause-reduced c =
    (reduced_none_beyond c.args.self.now.slots.items c.args.self.now.beyond c.args.reference
    c.args.shares c.requires.apart
    (none_counted c.args.self.now.mask c.args.self.now.slots.items c.args.self.now.beyond
    c.args.reference c.first_place-first.result c.index.result.now c.requires.stored
    c.first_place-first.ensures.first
    (ap (λ (x : Slot). x.beyond) (sym c.index.ensures) ∙ c.if-beyond-eq0.true))).1

pub returns-in_err-order-clause-value : goal.returns-in_err-order-clause-value
returns-in_err-order-clause-value c =
    c.from_residual.ensures
    ∙ (reduced_none_beyond c.args.self.now.slots.items c.args.self.now.beyond c.args.reference
    c.args.shares c.requires.apart
    (sym c.in_err-order.ensures)).0

pub returns-in_err-order-clause-reduced : goal.returns-in_err-order-clause-reduced
returns-in_err-order-clause-reduced c =
    (reduced_none_beyond c.args.self.now.slots.items c.args.self.now.beyond c.args.reference
    c.args.shares c.requires.apart
    (sym c.in_err-order.ensures)).1

pub returns-then-order-shares-clause-stored : goal.returns-then-order-shares-clause-stored
returns-then-order-shares-clause-stored c =
    subst (λ (xs : List Slot). AreStored c.args.self.now.mask xs c.remove.new.self)
    (sym (c.set_beyond.ensures c.index.result.now))
    (stored_remove_beyond c.args.self.now.mask c.args.self.now.slots.items c.args.self.now.beyond
    c.remove.new.self c.args.reference c.args.shares c.in_ok-order.order c.first_place-first.result
    (c.index.result.now.beyond - 1) c.index.result.now c.requires.stored c.requires.apart
    (omega (
      arith,
      c.first_place-first.ensures.within,
      ap (λ (xs : List Slot). length xs)
          c.as_slice.ensures.value,
    ))
    c.first_place-first.ensures.first (sym c.in_ok-order.ensures) c.if-order-shares.true
    (omega (arith, c.if-beyond-eq0.false, ap (λ (x : Slot). x.beyond) c.index.ensures))
    c.remove.ensures.orders c.remove.ensures.sums c.remove.ensures.keys).0

pub returns-then-order-shares-clause-value : goal.returns-then-order-shares-clause-value
returns-then-order-shares-clause-value c =
    c.in_ok-order.ensures
    ∙ sym (stored_beyond c.args.self.now.slots.items c.args.self.now.beyond c.args.reference
    c.requires.apart)

pub returns-then-order-shares-clause-reduced : goal.returns-then-order-shares-clause-reduced
returns-then-order-shares-clause-reduced c =
    subst (λ (xs : List Slot). IsReduced c.args.reference c.args.shares
    (stored_orders c.args.self.now.slots.items c.args.self.now.beyond)
    (stored_orders xs c.remove.new.self)) (sym (c.set_beyond.ensures c.index.result.now))
    (stored_remove_beyond c.args.self.now.mask c.args.self.now.slots.items c.args.self.now.beyond
    c.remove.new.self c.args.reference c.args.shares c.in_ok-order.order c.first_place-first.result
    (c.index.result.now.beyond - 1) c.index.result.now c.requires.stored c.requires.apart
    (omega (
      arith,
      c.first_place-first.ensures.within,
      ap (λ (xs : List Slot). length xs)
          c.as_slice.ensures.value,
    ))
    c.first_place-first.ensures.first (sym c.in_ok-order.ensures) c.if-order-shares.true
    (omega (arith, c.if-beyond-eq0.false, ap (λ (x : Slot). x.beyond) c.index.ensures))
    c.remove.ensures.orders c.remove.ensures.sums c.remove.ensures.keys).1

pub returns-else-order-shares-clause-stored : goal.returns-else-order-shares-clause-stored
returns-else-order-shares-clause-stored c =
    (stored_set_beyond c.args.self.now.mask c.args.self.now.slots.items c.args.self.now.beyond
    c.set.new.self c.args.reference c.args.shares c.in_ok-order.order _ c.requires.stored
    c.requires.apart
    (sym c.in_ok-order.ensures) (omega (arith, c.if-order-shares.false)) refl c.set.ensures.orders
    c.set.ensures.sums c.set.ensures.keys).0

pub returns-else-order-shares-clause-value : goal.returns-else-order-shares-clause-value
returns-else-order-shares-clause-value c =
    c.in_ok-order.ensures
    ∙ sym (stored_beyond c.args.self.now.slots.items c.args.self.now.beyond c.args.reference
    c.requires.apart)

pub returns-else-order-shares-clause-reduced : goal.returns-else-order-shares-clause-reduced
returns-else-order-shares-clause-reduced c =
    (stored_set_beyond c.args.self.now.mask c.args.self.now.slots.items c.args.self.now.beyond
    c.set.new.self c.args.reference c.args.shares c.in_ok-order.order _ c.requires.stored
    c.requires.apart
    (sym c.in_ok-order.ensures) (omega (arith, c.if-order-shares.false)) refl c.set.ensures.orders
    c.set.ensures.sums c.set.ensures.keys).1
