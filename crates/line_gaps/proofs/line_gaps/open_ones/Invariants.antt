use Rattle.std.proofs.Common.{◌≡◌, ◌≤◌, length, take}
use Rattle.std.specs.List.{filter}
use Rattle.line_gaps.specs.Runs.{meets_runs}
use Rattle.line_gaps.proofs.line_gaps.open_ones.Given as goal

abbrev pub invariant-loop-gap : goal.invariant-loop-gap
invariant-loop-gap l = record {
  are : l.kept.items ≡ filter (λ g. meets_runs l.lost.missing.runs.items g.run)
      (take l.gap-index l.gaps);
  few : length l.kept.items ≤ l.gap-index;
}
