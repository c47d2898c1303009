use Rattle.std.proofs.Common.{ℕ, List, ◌∙◌, ap, sym, arith, nat_eq}
use Rattle.std.specs.Prelude.{position}
use Rattle.std.specs.Int.{w64, to_be_bytes}
use Rattle.std.specs.Str.{bytes_eq}
use Rattle.feed_types.specs.Symbols.{key_of}
use Rattle.nbbo_book.specs.declared.row.Row.{Row}
use Rattle.nbbo_book.specs.Tables.{HasKey, symbols_in_rows}
use Rattle.nbbo_book.proofs.Keys.{found_by_key, symbols_apart}
use Rattle.nbbo_book.proofs.Stepping.{place_found}
use Rattle.nbbo_book.proofs.table.find.Goals as goal

pub returns-then-is_of : goal.returns-then-is_of
returns-then-is_of c =
    let rows : List Row = c.args.rows.now in
    let distinct = symbols_apart (symbols_in_rows rows) c.args.table.now.symbols.keys c.requires in
    sym (place_found rows c.args.symbol c.place_of-cached.result c.index-rows-cached.result distinct
    (omega (arith, c.if-cached-rows.true))
    (ap (λ (row : Row). bytes_eq c.args.symbol row.symbol) (sym c.index-rows-cached.is)
    ∙ sym c.is_of.ensures
    ∙ c.if-is_of.true))

pub returns : goal.returns
returns c =
    let symbols = symbols_in_rows c.args.rows.now in
    let has : HasKey c.args.symbol =
    record { told = ap (to_be_bytes w64) (sym c.key-2.ensures.value) ∙ c.key-2.ensures.field } in
    c.search_keys.ensures
    ∙ ap (λ (w : ℕ). position (nat_eq w) c.args.table.now.symbols.keys) c.key-2.ensures.value
    ∙ ap (λ (ks : List ℕ). position (nat_eq (key_of c.args.symbol)) ks) c.requires.in_order
    ∙ found_by_key c.args.symbol symbols has c.requires.told
