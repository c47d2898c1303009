use Rattle.std.proofs.Common.{◌≡◌, ◌++◌, flat_map, take}
use Rattle.run_metrics.specs.Metrics.{line_family}
use Rattle.run_metrics.proofs.page.put_line_families.Given as goal

abbrev pub invariant-loop-metric : goal.invariant-loop-metric
invariant-loop-metric l = l.text.items ≡ l.fn.text.items
    ++ flat_map (λ m. line_family l.names l.venues m) (take l.metric-index l.metrics)
