use Rattle.std.proofs.Common.{◌≡◌, ◌++◌, flat_map, take}
use Rattle.run_metrics.specs.Metrics.{state_family}
use Rattle.run_metrics.proofs.line_states.put_state_families.Given as goal

abbrev pub invariant-loop-metric : goal.invariant-loop-metric
invariant-loop-metric l = l.text.items ≡ l.fn.text.items
    ++ flat_map (λ m. state_family l.names l.venues m) (take l.metric-index l.metrics)
