use Rattle.std.proofs.Common.{◌≤◌, ◌∙◌, ap, arith}
use Rattle.nbbo_book.specs.Tables.{symbols_in_rows}
use Rattle.nbbo_book.proofs.BookFits.{empty_is, empty_fits, empty_symbols}
use Rattle.nbbo_book.proofs.book.Book.new.Goals as goal

pub invariant_of-result : goal.invariant_of-result
invariant_of-result c =
    let few : c.args.venue_count ≤ 16 = omega arith in
    empty_is c.in_ok-table.table.symbols.keys c.args.symbols.now
    c.args.venue_count c.in-Ok.rows.items few
    c.in-Ok.ensures c.in_ok-table.ensures.table

pub returns-clause-fits : goal.returns-clause-fits
returns-clause-fits c = empty_fits c.args.symbols.now c.args.venue_count
    c.in-Ok.rows.items c.in-Ok.ensures

pub returns-clause-symbols : goal.returns-clause-symbols
returns-clause-symbols c = ap symbols_in_rows c.in-Ok.ensures ∙ empty_symbols c.args.symbols.now
