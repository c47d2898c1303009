use Rattle.std.proofs.Common.{◌≡◌, take}
use Rattle.line_gaps.specs.Runs.{sum_in}
use Rattle.line_gaps.proofs.number_runs.NumberRuns.count_in.Given as goal

abbrev pub invariant-loop-run : goal.invariant-loop-run
invariant-loop-run l = l.count ≡ sum_in (take l.run-index l.self.runs.items) l.other
