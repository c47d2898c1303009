use Rattle.std.proofs.Common.{◌≡◌, ℕ, ◌<◌, ◌≤◌, List, length, get_or, ap, sym, ◌∙◌, subst, arith}
use Rattle.std.proofs.lemmas.List.{length-map}
use Rattle.feed_types.specs.Symbols.{key_of}
use Rattle.itch_book.specs.declared.row.SymbolRow.{SymbolRow}
use Rattle.itch_book.specs.Inside.{unknown_row}
use Rattle.itch_book.proofs.Sessions.{fits_none, lots_none}
use Rattle.itch_book.proofs.book.OrderBook.new.Goals as goal

pub invariant_of-result : goal.invariant_of-result
invariant_of-result c =
    let symbols = c.args.symbols.now in
    let rows : length c.in_ok-rows.rows.items ≡ length symbols =
    ap length c.in_ok-rows.ensures ∙ length-map symbols unknown_row in
    let places : length c.in_ok-places.places ≡ length symbols =
    ap length c.in_ok-places.ensures ∙ length-map symbols key_of in (
      omega (arith, rows, places),
      omega (arith, places, c.in_ok-orders.ensures.sides),
      subst (λ (ks : List ℕ). length ks ≤ 65536) c.places.view_is c.places.invariant.0,
      subst (λ (rs : List SymbolRow). (k : ℕ) (d : SymbolRow) → k < length rs
          → 1 ≤ (get_or rs k d).lot)
          (sym c.in_ok-rows.ensures) (lots_none symbols),
    )

pub returns-clause-fits : goal.returns-clause-fits
returns-clause-fits c =
    rw (c.in_ok-places.ensures, c.in_ok-orders.ensures.none, c.in_ok-rows.ensures)
    (fits_none c.args.symbols.now)
