use Rattle.std.proofs.Common.{◌≡◌}
use Rattle.std.specs.Prelude.{None}
use Rattle.std.proofs.lemmas.Bool.{ne_eqb}
use Rattle.itch_book.specs.Orders.{live_order}
use Rattle.itch_book.proofs.Holding.{Holds-with, was_put}
use Rattle.itch_book.proofs.orders.Orders.add.Goals as goal

pub returns-clause-orders : goal.returns-clause-orders
returns-clause-orders c orders h =
    let table = c.self.inside.table in
    let none : live_order table c.args.reference ≡ None =
    was_put c.in_ok-put.field-0 (live_order table c.args.reference)
    c.if-not-branch.false c.in_ok-put.ensures.told in
    let put = c.in_ok-put.ensures.put c.if-not-branch.false in
    Holds-with table c.put.new.self orders c.args.reference c.args.order
    (rw (← c.self.view_is) at h) none (ne_eqb c.args.order.shares 0 c.if-order-eq0.false)
    put.orders put.sums
