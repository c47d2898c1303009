use Rattle.std.proofs.Common.{◌≡◌, take, map}
use Rattle.std.specs.List.{AllByRecursion}
use Rattle.feed_types.specs.Symbols.{key_of}
use Rattle.nbbo_book.specs.Tables.{HasKey}
use Rattle.nbbo_book.proofs.table.symbol_keys.Given as goal

abbrev pub invariant-loop-symbol : goal.invariant-loop-symbol
invariant-loop-symbol l = record {
  in_order : l.set.keys ≡ map key_of (take l.symbol-index l.symbols);
  told : AllByRecursion HasKey (take l.symbol-index l.symbols);
}
