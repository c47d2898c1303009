use Rattle.std.proofs.Common.{◌∙◌, ap, sym, subst}
use Rattle.itch_book.specs.Inside.{Holds}
use Rattle.itch_book.specs.Orders.{replaced_from}
use Rattle.itch_book.proofs.Kept.{without_none}
use Rattle.itch_book.proofs.orders.Orders.replace.Goals as goal

pub returns-in_default-clause-orders : goal.returns-in_default-clause-orders
returns-in_default-clause-orders c orders h =
    let reference = c.args.other.now.reference in
    let none = sym c.in_default.ensures.value in
    subst (λ os. Holds c.remove.new.self.table os)
    (without_none c.args.self.now.table orders reference h none
    ∙ sym (ap (λ o. replaced_from o c.args.other.now orders)
    (sym (h.each reference) ∙ none)))
    (c.in_default.ensures.orders orders h)
