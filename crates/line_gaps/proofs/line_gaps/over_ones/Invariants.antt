use Rattle.std.proofs.Common.{◌≡◌, ◌≤◌, length, take, not}
use Rattle.std.specs.List.{filter}
use Rattle.line_gaps.specs.Runs.{meets_runs}
use Rattle.line_gaps.proofs.line_gaps.over_ones.Given as goal

abbrev pub invariant-loop-gap : goal.invariant-loop-gap
invariant-loop-gap l = record {
  are : l.over.items ≡ filter (λ g. not (meets_runs l.lost.missing.runs.items g.run))
      (take l.gap-index l.gaps);
  few : length l.over.items ≤ l.gap-index;
}
