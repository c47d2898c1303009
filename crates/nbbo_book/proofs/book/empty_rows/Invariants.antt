use Rattle.std.proofs.Common.{◌≡◌, take, map}
use Rattle.nbbo_book.specs.Rows.{empty_row}
use Rattle.nbbo_book.proofs.book.empty_rows.Given as goal

abbrev pub invariant-loop-symbol : goal.invariant-loop-symbol
invariant-loop-symbol l = l.rows.items ≡ map empty_row (take l.symbol-index l.symbols)
