use Rattle.std.proofs.Common.{◌≡◌, ℕ, ◌<◌, ◌≤◌, ◌-◌, Some, length, slice_get}
use Rattle.run_settings.specs.declared.captured_line.CapturedLine.{CapturedLine}
use Rattle.run_settings.specs.Lists.{AreSame}
use Rattle.run_settings.proofs.line_list.are_apart.Given as goal

abbrev pub invariant-loop-place : goal.invariant-loop-place
invariant-loop-place l = record {
  within : l.place ≤ length l.lines;
  apart : (later earlier : ℕ) (line other : CapturedLine) → later < l.place → earlier < later
      → Some other ≡ slice_get l.lines earlier → Some line ≡ slice_get l.lines later
      → AreSame other line → ⊥;
}

abbrev pub decreases-loop-place : goal.decreases-loop-place
decreases-loop-place l = length l.lines - l.place
