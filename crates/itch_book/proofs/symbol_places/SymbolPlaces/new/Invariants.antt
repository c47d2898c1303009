use Rattle.std.proofs.Common.{◌≡◌, take, map}
use Rattle.feed_types.specs.Symbols.{key_of}
use Rattle.itch_book.proofs.symbol_places.SymbolPlaces.new.Given as goal

abbrev pub invariant-loop-symbol : goal.invariant-loop-symbol
invariant-loop-symbol l = l.keys.keys ≡ map key_of (take l.symbol-index l.symbols)
