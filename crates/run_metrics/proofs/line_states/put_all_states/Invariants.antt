use Rattle.std.proofs.Common.{◌≡◌, ◌++◌, flat_map, take}
use Rattle.run_metrics.specs.Metrics.{state_rows}
use Rattle.run_metrics.proofs.line_states.put_all_states.Given as goal

abbrev pub invariant-loop-venue : goal.invariant-loop-venue
invariant-loop-venue l = l.text.items ≡ l.fn.text.items
    ++ flat_map (λ v. state_rows l.names l.metric v) (take l.venue-index l.venues)
