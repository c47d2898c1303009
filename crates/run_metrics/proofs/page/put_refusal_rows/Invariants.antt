use Rattle.std.proofs.Common.{◌≡◌, ◌++◌, flat_map, take}
use Rattle.run_metrics.specs.Metrics.{refusal_row}
use Rattle.run_metrics.proofs.page.put_refusal_rows.Given as goal

abbrev pub invariant-loop-count : goal.invariant-loop-count
invariant-loop-count l = l.text.items ≡ l.fn.text.items
    ++ flat_map (λ c. refusal_row l.venue l.line c.0.now c.1) (take l.count-index l.counts)
