use Rattle.std.proofs.Common.{◌≡◌, ℕ, List, [], ◌∷◌, ◌++◌, refl, sym, subst, arith}
use Rattle.std.specs.Vec.{with_items}
use Rattle.std.proofs.lemmas.List.{with_items_is}
use Rattle.std.proofs.lemmas.Bool.{ne_eqb}
use Rattle.itch_messages.specs.declared.event.OrderEvent.TheVariants as event
use Rattle.itch_book.specs.declared.row.SymbolRow.{SymbolRow}
use Rattle.itch_book.specs.Books.{FitsEvents}
use Rattle.itch_book.proofs.Sessions.{book_of, fits_lot, fits_still, leaves_lot_none, leaves_lot_zero}
use Rattle.itch_book.proofs.book.OrderBook.take_lot.Goals as goal

pub returns-then-lot-eq0-clause-fits : goal.returns-then-lot-eq0-clause-fits
returns-then-lot-eq0-clause-fits c events fits =
    let book = c.args.self.now in
    fits_still book.keys events (event.RoundLot c.args.symbol c.args.lot c.args.locate) book.table
    book.rows book.oddities fits refl refl
    (leaves_lot_zero book.keys c.args.symbol c.args.lot c.args.locate c.if-lot-eq0.true)

pub returns-in-Some-clause-fits : goal.returns-in-Some-clause-fits
returns-in-Some-clause-fits c events fits =
    let e = event.RoundLot c.args.symbol c.args.lot c.args.locate in
    let rows = c.show_lot.new.rows in
    let same : (with_items c.self.inside.rows rows).items ≡ rows =
    with_items_is c.self.inside.rows rows
    (omega (arith, c.show_lot.auto.rows, c.as_mut_slice.ensures.len)) in
    let after = (with_items c.self.inside.rows rows).items in
    subst (λ (ks : List ℕ). FitsEvents (book_of ks c.self.inside.orders.table after
    c.self.inside.oddities) (events ++ e ∷ []))
    (sym c.place_of.ensures.keys)
    (subst (λ (rs : List SymbolRow). FitsEvents (book_of c.self.inside.places
    c.self.inside.orders.table rs c.self.inside.oddities) (events ++ e ∷ []))
    (sym same)
    (fits_lot c.self.inside.places events c.args.symbol c.args.lot c.args.locate c.in-Some.place
    c.self.inside.orders.table c.self.inside.rows.items c.show_lot.new.rows
    c.self.inside.oddities (rw (← c.self.view_is) at fits) (sym c.in-Some.ensures.value)
    (ne_eqb c.args.lot 0 c.if-lot-eq0.false)
    (rw c.as_mut_slice.ensures.value at c.show_lot.ensures.shown) c.self.invariant.0))

pub returns-in-None-clause-fits : goal.returns-in-None-clause-fits
returns-in-None-clause-fits c events fits =
    let e = event.RoundLot c.args.symbol c.args.lot c.args.locate in
    subst (λ (ks : List ℕ). FitsEvents (book_of ks c.self.inside.orders.table
    c.self.inside.rows.items c.self.inside.oddities) (events ++ e ∷ []))
    (sym c.place_of.ensures.keys)
    (fits_still c.self.inside.places events e c.self.inside.orders.table c.self.inside.rows.items
    c.self.inside.oddities (rw (← c.self.view_is) at fits) refl refl
    (leaves_lot_none c.self.inside.places c.args.symbol c.args.lot c.args.locate
    (sym c.in-None.ensures.value)))
