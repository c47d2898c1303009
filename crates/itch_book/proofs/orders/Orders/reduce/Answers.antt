use Rattle.std.proofs.Common.{sym, arith}
use Rattle.itch_book.proofs.Holding.{Holds-reduced}
use Rattle.itch_book.proofs.Kept.{kept_take}
use Rattle.itch_book.proofs.orders.Orders.reduce.Goals as goal

pub take-requires : goal.take-requires
take-requires c =
    kept_take c.self.inside.table c.self.inside.sides.items c.args.reference c.in_ok-order.order
    c.index_mut-side.result.now c.min.result c.self.invariant
    (sym c.in_ok-order.ensures.value) c.index_mut-side.ensures.value
    (omega (arith, c.min.ensures))

pub returns-clause-orders : goal.returns-clause-orders
returns-clause-orders c orders h =
    Holds-reduced c.self.inside.table c.reduce.new.self orders c.args.reference c.args.shares
    c.in_ok-order.order (rw (← c.self.view_is) at h) (sym c.in_ok-order.ensures.value)
    c.in_ok-order.ensures.reduced
