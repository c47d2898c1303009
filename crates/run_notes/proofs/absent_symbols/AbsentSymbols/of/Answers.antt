use Rattle.std.proofs.Common.{◌≤◌, length, arith}
use Rattle.run_notes.proofs.SymbolKeys.{keys_all, keys_put}
use Rattle.run_notes.proofs.absent_symbols.AbsentSymbols.of.Goals as goal

pub loop-symbol-preserved : goal.loop-symbol-preserved
loop-symbol-preserved c =
    keys_put c.args.symbols.now c.loop-symbol.symbol-index c.symbol-item.result c.key.result
    c.loop-symbol.keys.keys _ c.loop-symbol-test.true c.symbol-item.is c.key.ensures.value
    c.loop-symbol.invariant c.in-Ok.ensures.updates.0

pub returns : goal.returns
returns c =
    let long : length c.args.symbols.now ≤ c.loop-symbol.symbol-index =
    omega (arith, c.loop-symbol.auto.symbol-index-end, c.loop-symbol-test.false) in
    keys_all c.args.symbols.now c.loop-symbol.symbol-index c.loop-symbol.keys.keys long
    c.loop-symbol.invariant
