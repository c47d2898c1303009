use Rattle.std.proofs.Common.{◌≤◌, length, arith}
use Rattle.feed_types.specs.Symbols.{key_of}
use Rattle.text_out.specs.Devices.{Writing}
use Rattle.text_out.specs.Members.{writing_of}
use Rattle.run_notes.specs.AbsentSymbols.{has_key}
use Rattle.run_notes.proofs.FirstAbsent.{says_all, says_first}
use Rattle.run_notes.proofs.absent_report.write_first.Goals as goal

pub loop-symbol-preserved : goal.loop-symbol-preserved
loop-symbol-preserved g c =
    let w : Writing g.row.E.Denot = writing_of g.E.TextOut in
    says_first w c.args.what.now (λ symbol. has_key c.args.absent.now (key_of symbol))
    c.args.symbols.now c.loop-symbol.symbol-index c.symbol-item.result c.loop-symbol.named
    c.write_if-named.result c.is_named.result c.args.errors.now c.loop-symbol.errors
    c.write_if-named.new.errors c.loop-symbol-test.true c.symbol-item.is c.is_named.ensures
    c.write_if-named.ensures.count c.loop-symbol.invariant c.write_if-named.ensures.says

pub returns : goal.returns
returns g c =
    let w : Writing g.row.E.Denot = writing_of g.E.TextOut in
    let long : length c.args.symbols.now ≤ c.loop-symbol.symbol-index =
    omega (arith, c.loop-symbol.auto.symbol-index-end, c.loop-symbol-test.false) in
    says_all w c.args.what.now (λ symbol. has_key c.args.absent.now (key_of symbol))
    c.args.symbols.now c.loop-symbol.symbol-index c.loop-symbol.named c.args.errors.now
    c.loop-symbol.errors long c.loop-symbol.invariant
