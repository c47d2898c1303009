use Rattle.period_rows.proofs.BestLists.{RestartedTo}
use Rattle.period_rows.proofs.best_table.restart_all.Given as goal

abbrev pub invariant-loop-place : goal.invariant-loop-place
invariant-loop-place l = RestartedTo l.from l.place l.fn.times.items l.times.items
