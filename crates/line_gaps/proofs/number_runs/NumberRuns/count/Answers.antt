use Rattle.line_gaps.proofs.RunCounts.{sum_is_count}
use Rattle.line_gaps.proofs.number_runs.NumberRuns.count.Goals as goal

pub returns : goal.returns
returns c = λ order.
    rw c.count_in.ensures (sum_is_count c.args.self.now.runs.items
    (record { first = 0; last = c.args.highest }) order)
