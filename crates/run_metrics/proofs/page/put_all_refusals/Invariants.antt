use Rattle.std.proofs.Common.{◌≡◌, ◌++◌, flat_map, take}
use Rattle.run_metrics.specs.Metrics.{venue_refusals}
use Rattle.run_metrics.proofs.page.put_all_refusals.Given as goal

abbrev pub invariant-loop-venue : goal.invariant-loop-venue
invariant-loop-venue l = l.text.items ≡ l.fn.text.items
    ++ flat_map (λ v. venue_refusals l.names v) (take l.venue-index l.venues)
