use Rattle.std.proofs.Common.{◌≡◌, ℕ, ◌<◌, Some, slice_get}
use Rattle.run_settings.specs.declared.captured_line.CapturedLine.{CapturedLine}
use Rattle.run_settings.specs.Lists.{AreSame}
use Rattle.run_settings.proofs.line_list.has_same.Given as goal

abbrev pub invariant-loop-other : goal.invariant-loop-other
invariant-loop-other l =
    (earlier : ℕ) (one : CapturedLine) → earlier < l.other-index
    → Some one ≡ slice_get l.lines earlier → AreSame one l.line → ⊥
