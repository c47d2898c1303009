use Rattle.text_out.specs.Members.{writing_of}
use Rattle.feed_types.specs.Symbols.{key_of}
use Rattle.run_notes.specs.AbsentSymbols.{has_key}
use Rattle.run_notes.proofs.FirstAbsent.{SaysFirst}
use Rattle.run_notes.proofs.absent_report.write_first.Given as goal

abbrev pub invariant-loop-symbol : goal.invariant-loop-symbol
invariant-loop-symbol g l =
    SaysFirst (writing_of g.E.TextOut) l.what
    (λ symbol. has_key l.absent (key_of symbol)) l.symbols l.symbol-index l.named
    l.fn.errors l.errors
