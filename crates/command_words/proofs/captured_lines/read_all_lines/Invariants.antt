use Rattle.std.proofs.Common.{Err, ℕ, ◌≤◌}
use Rattle.command_words.specs.CapturedLines.{ReadsCapturedLines}
use Rattle.command_words.specs.declared.refusal.Refusal.TheVariants.{BadLines}
use Rattle.command_words.proofs.captured_lines.read_all_lines.Given as goal

abbrev pub invariant-loop-fewer : goal.invariant-loop-fewer
invariant-loop-fewer l = (venues : ℕ) → 1 ≤ venues → venues ≤ l.fewer
    → ReadsCapturedLines l.list venues (Err BadLines)
