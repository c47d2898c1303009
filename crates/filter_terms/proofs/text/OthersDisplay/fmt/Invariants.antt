use Rattle.std.proofs.Common.{take}
use Rattle.std.specs.Fmt.{HasWritten, IsPlainFormatter}
use Rattle.filter_terms.specs.Text.{others_text}
use Rattle.filter_terms.proofs.text.OthersDisplay.fmt.Given as goal

abbrev pub invariant-loop-symbol : goal.invariant-loop-symbol
invariant-loop-symbol g l =
    IsPlainFormatter l.initial.f → HasWritten g.W.Write.write_str_gives l.initial.f
    (others_text (take l.symbol-index l.symbol-items)) l.f
