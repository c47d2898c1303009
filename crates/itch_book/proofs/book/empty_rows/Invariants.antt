use Rattle.std.proofs.Common.{◌≡◌, take, map}
use Rattle.itch_book.specs.Inside.{unknown_row}
use Rattle.itch_book.proofs.book.empty_rows.Given as goal

abbrev pub invariant-loop-symbol : goal.invariant-loop-symbol
invariant-loop-symbol l = l.rows.items ≡ map unknown_row (take l.symbol-index l.symbols)
