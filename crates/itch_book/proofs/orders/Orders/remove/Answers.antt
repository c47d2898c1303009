use Rattle.std.proofs.Common.{sym, subst, arith}
use Rattle.itch_book.specs.Inside.{Holds}
use Rattle.itch_book.specs.Orders.{without_order}
use Rattle.itch_book.proofs.Holding.{Holds-without}
use Rattle.itch_book.proofs.Kept.{kept_removed, kept_take, without_none}
use Rattle.itch_book.proofs.orders.Orders.remove.Goals as goal

pub returns-in_err-order-clause-orders : goal.returns-in_err-order-clause-orders
returns-in_err-order-clause-orders c orders h =
    let held = rw (← c.self.view_is) at h in
    subst (λ t. Holds t (without_order c.args.reference orders)) (sym c.in_err-order.ensures.same)
    (subst (λ os. Holds c.self.inside.table os)
    (sym (without_none c.self.inside.table orders c.args.reference held
    (sym c.in_err-order.ensures.value)))
    held)

pub take-requires : goal.take-requires
take-requires c =
    kept_take c.self.inside.table c.self.inside.sides.items c.args.reference c.in_ok-order.order
    c.index_mut-side.result.now c.in_ok-order.order.shares c.self.invariant
    (sym c.in_ok-order.ensures.value) c.index_mut-side.ensures.value (omega arith)

pub invariant_of-self-2 : goal.invariant_of-self-2
invariant_of-self-2 c =
    kept_removed c.self.inside.table c.remove.new.self c.self.inside.sides.items c.args.reference
    c.in_ok-order.order c.index_mut-side.result.now c.take.new.self c.self.invariant
    (sym c.in_ok-order.ensures.value) c.index_mut-side.ensures.value
    c.remove.ensures.orders c.remove.ensures.sums c.take.ensures

pub returns-clause-orders : goal.returns-clause-orders
returns-clause-orders c orders h =
    Holds-without c.self.inside.table c.remove.new.self orders c.args.reference
    (rw (← c.self.view_is) at h) c.remove.ensures.orders c.remove.ensures.sums
