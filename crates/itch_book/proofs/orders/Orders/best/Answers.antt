use Rattle.itch_book.proofs.Kept.{kept_best}
use Rattle.itch_book.proofs.orders.Orders.best.Goals as goal

pub returns : goal.returns
returns c orders h =
    kept_best c.self.inside.table orders c.self.inside.sides.items c.args.side c.args.lot
    c.index.result.now c.best.result c.self.invariant
    (rw (← c.self.view_is) at c.requires.side) c.index.ensures
    (rw (← c.self.view_is) at h) c.best.ensures
