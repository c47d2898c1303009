use Rattle.std.proofs.Common.{◌≡◌, sum, take}
use Rattle.line_arbiter.specs.Counts.{shown}
use Rattle.run_metrics.proofs.line_figures.sum_of.Given as goal

abbrev pub invariant-loop-count : goal.invariant-loop-count
invariant-loop-count l = l.sum ≡ shown (sum (take l.count-index l.counts))
