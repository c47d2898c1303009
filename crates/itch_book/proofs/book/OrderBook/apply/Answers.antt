use Rattle.std.proofs.Common.{Option, refl, sym, ap, ◌∙◌, subst, ◌++◌, ◌∷◌, []}
use Rattle.itch_messages.specs.declared.event.OrderEvent.{OrderEvent}
use Rattle.itch_messages.specs.declared.event.OrderEvent.TheVariants as event
use Rattle.itch_book.specs.declared.order.Order.{Order}
use Rattle.itch_book.specs.Books.{FitsEvents, session_orders_of}
use Rattle.itch_book.specs.Oddities.{gone_oddity, less_oddity, placed_oddity}
use Rattle.itch_book.specs.Orders.{place_among}
use Rattle.itch_book.proofs.Sessions.{fits_step}
use Rattle.itch_book.proofs.book.OrderBook.apply.Goals as goal

pub returns-in_ok-step-in-Add-clause-fits : goal.returns-in_ok-step-in-Add-clause-fits
returns-in_ok-step-in-Add-clause-fits c events fits =
    let held = rw (← c.self.view_is) at fits in
    let keys = c.self.inside.places in
    let e = event.Add c.in-Add.order in
    subst (λ (x : OrderEvent). FitsEvents c.finish.new.self (events ++ x ∷ [])) (sym c.in-Add.is)
    (fits_step keys events e c.self.inside.orders.table
    c.add_order.new.orders.table c.self.inside.rows.items c.self.inside.oddities
    c.in_ok-step-in-Add.step.side c.in_ok-step-in-Add.step.oddity c.finish.new.self held
    (record { lot = λ place lot. refl; halt = λ place kind halted. refl })
    (c.in_ok-step-in-Add.ensures.orders (session_orders_of keys events).live held.orders)
    (c.in_ok-step-in-Add.ensures.oddity ∙ ap (λ (o : Option Order). placed_oddity
    (place_among keys c.in-Add.order.symbol) o c.in-Add.order.shares)
    (held.orders.each c.in-Add.order.reference))
    c.in_ok-step-in-Add.ensures.others c.finish.ensures.shown c.finish.ensures.oddities
    c.finish.ensures.table (c.finish.ensures.keys ∙ c.add_order.ensures.keys) c.self.invariant.0)

pub returns-in-Reduce-clause-fits : goal.returns-in-Reduce-clause-fits
returns-in-Reduce-clause-fits c events fits =
    let held = rw (← c.self-in-Reduce.view_is) at fits in
    let keys = c.self-in-Reduce.inside.places in
    let e = event.Reduce c.in-Reduce.reference c.in-Reduce.shares in
    subst (λ (x : OrderEvent). FitsEvents c.finish-in-Reduce.new.self (events ++ x ∷ []))
    (sym c.in-Reduce.is)
    (fits_step keys events e c.self-in-Reduce.inside.orders.table
    c.take-step.new.self.table c.self-in-Reduce.inside.rows.items
    c.self-in-Reduce.inside.oddities
    c.take-step.result.side c.take-step.result.oddity c.finish-in-Reduce.new.self held
    (record { lot = λ place lot. refl; halt = λ place kind halted. refl })
    (c.take-step.ensures.orders (session_orders_of keys events).live held.orders)
    (c.take-step.ensures.oddity ∙ ap (λ (o : Option Order). less_oddity o c.in-Reduce.shares)
    (held.orders.each c.in-Reduce.reference))
    c.take-step.ensures.others c.finish-in-Reduce.ensures.shown
    c.finish-in-Reduce.ensures.oddities c.finish-in-Reduce.ensures.table
    c.finish-in-Reduce.ensures.keys c.self-in-Reduce.invariant.0)

pub returns-in-Delete-clause-fits : goal.returns-in-Delete-clause-fits
returns-in-Delete-clause-fits c events fits =
    let held = rw (← c.self-in-Delete.view_is) at fits in
    let keys = c.self-in-Delete.inside.places in
    let e = event.Delete c.in-Delete.reference in
    subst (λ (x : OrderEvent). FitsEvents c.finish-in-Delete.new.self (events ++ x ∷ []))
    (sym c.in-Delete.is)
    (fits_step keys events e c.self-in-Delete.inside.orders.table
    c.delete-step.new.self.table c.self-in-Delete.inside.rows.items
    c.self-in-Delete.inside.oddities
    c.delete-step.result.side c.delete-step.result.oddity c.finish-in-Delete.new.self held
    (record { lot = λ place lot. refl; halt = λ place kind halted. refl })
    (c.delete-step.ensures.orders (session_orders_of keys events).live held.orders)
    (c.delete-step.ensures.oddity ∙ ap (λ (o : Option Order). gone_oddity o)
    (held.orders.each c.in-Delete.reference))
    c.delete-step.ensures.others c.finish-in-Delete.ensures.shown
    c.finish-in-Delete.ensures.oddities c.finish-in-Delete.ensures.table
    c.finish-in-Delete.ensures.keys c.self-in-Delete.invariant.0)

pub returns-in_ok-step-in-Replace-clause-fits : goal.returns-in_ok-step-in-Replace-clause-fits
returns-in_ok-step-in-Replace-clause-fits c events fits =
    let held = rw (← c.self-in-Replace.view_is) at fits in
    let keys = c.self-in-Replace.inside.places in
    let e = event.Replace c.in-Replace.other in
    subst (λ (x : OrderEvent). FitsEvents c.finish-in-Replace.new.self (events ++ x ∷ []))
    (sym c.in-Replace.is)
    (fits_step keys events e c.self-in-Replace.inside.orders.table
    c.replace.new.self.table c.self-in-Replace.inside.rows.items
    c.self-in-Replace.inside.oddities
    c.in_ok-step-in-Replace.step.side c.in_ok-step-in-Replace.step.oddity
    c.finish-in-Replace.new.self held
    (record { lot = λ place lot. refl; halt = λ place kind halted. refl })
    (c.in_ok-step-in-Replace.ensures.orders (session_orders_of keys events).live held.orders)
    (c.in_ok-step-in-Replace.ensures.oddity (session_orders_of keys events).live held.orders)
    c.in_ok-step-in-Replace.ensures.others c.finish-in-Replace.ensures.shown
    c.finish-in-Replace.ensures.oddities c.finish-in-Replace.ensures.table
    c.finish-in-Replace.ensures.keys c.self-in-Replace.invariant.0)
