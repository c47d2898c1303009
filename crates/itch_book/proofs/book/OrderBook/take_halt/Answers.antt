use Rattle.std.proofs.Common.{◌≡◌, ℕ, List, [], ◌∷◌, ◌++◌, refl, sym, subst, arith}
use Rattle.std.specs.Vec.{with_items}
use Rattle.std.proofs.lemmas.List.{with_items_is}
use Rattle.itch_messages.specs.declared.event.OrderEvent.TheVariants as event
use Rattle.itch_book.specs.declared.row.SymbolRow.{SymbolRow}
use Rattle.itch_book.specs.Books.{FitsEvents}
use Rattle.itch_book.proofs.Sessions.{book_of, fits_halt, fits_still, leaves_halt_none}
use Rattle.itch_book.proofs.book.OrderBook.take_halt.Goals as goal

pub returns-in-Some-clause-fits : goal.returns-in-Some-clause-fits
returns-in-Some-clause-fits c events fits =
    let e = event.Halt c.args.symbol c.args.kind c.args.halted c.args.locate in
    let rows = c.show_halt.new.rows in
    let same : (with_items c.self.inside.rows rows).items ≡ rows =
    with_items_is c.self.inside.rows rows
    (omega (arith, c.show_halt.auto.rows, c.as_mut_slice.ensures.len)) in
    let after = (with_items c.self.inside.rows rows).items in
    subst (λ (ks : List ℕ). FitsEvents (book_of ks c.self.inside.orders.table after
    c.self.inside.oddities) (events ++ e ∷ []))
    (sym c.place_of.ensures.keys)
    (subst (λ (rs : List SymbolRow). FitsEvents (book_of c.self.inside.places
    c.self.inside.orders.table rs c.self.inside.oddities) (events ++ e ∷ []))
    (sym same)
    (fits_halt c.self.inside.places events c.args.symbol c.args.kind c.args.halted c.args.locate
    c.in-Some.place c.self.inside.orders.table c.self.inside.rows.items c.show_halt.new.rows
    c.self.inside.oddities (rw (← c.self.view_is) at fits) (sym c.in-Some.ensures.value)
    (rw c.as_mut_slice.ensures.value at c.show_halt.ensures.shown) c.self.invariant.0))

pub returns-in-None-clause-fits : goal.returns-in-None-clause-fits
returns-in-None-clause-fits c events fits =
    let e = event.Halt c.args.symbol c.args.kind c.args.halted c.args.locate in
    subst (λ (ks : List ℕ). FitsEvents (book_of ks c.self.inside.orders.table
    c.self.inside.rows.items c.self.inside.oddities) (events ++ e ∷ []))
    (sym c.place_of.ensures.keys)
    (fits_still c.self.inside.places events e c.self.inside.orders.table c.self.inside.rows.items
    c.self.inside.oddities (rw (← c.self.view_is) at fits) refl refl
    (leaves_halt_none c.self.inside.places c.args.symbol c.args.kind c.args.halted c.args.locate
    (sym c.in-None.ensures.value)))
