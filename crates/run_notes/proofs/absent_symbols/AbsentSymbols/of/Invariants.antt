use Rattle.std.proofs.Common.{take}
use Rattle.run_notes.specs.AbsentSymbols.{AreKeysOf}
use Rattle.run_notes.proofs.absent_symbols.AbsentSymbols.of.Given as goal

abbrev pub invariant-loop-symbol : goal.invariant-loop-symbol
invariant-loop-symbol l = AreKeysOf (take l.symbol-index l.symbols) l.keys.keys
