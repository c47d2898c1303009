use Rattle.std.proofs.Common.{◌≡◌, ◌++◌, flat_map, take}
use Rattle.run_metrics.specs.Metrics.{venue_row_of}
use Rattle.run_metrics.proofs.page.put_venue_rows.Given as goal

abbrev pub invariant-loop-venue : goal.invariant-loop-venue
invariant-loop-venue l = l.text.items ≡ l.fn.text.items
    ++ flat_map (λ v. venue_row_of l.names l.metric v) (take l.venue-index l.venues)
