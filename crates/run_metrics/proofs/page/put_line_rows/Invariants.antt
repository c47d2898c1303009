use Rattle.std.proofs.Common.{◌≡◌, ◌++◌, flat_map, take}
use Rattle.run_metrics.specs.Metrics.{line_rows}
use Rattle.run_metrics.proofs.page.put_line_rows.Given as goal

abbrev pub invariant-loop-venue : goal.invariant-loop-venue
invariant-loop-venue l = l.text.items ≡ l.fn.text.items
    ++ flat_map (λ v. line_rows l.names l.metric v) (take l.venue-index l.venues)
