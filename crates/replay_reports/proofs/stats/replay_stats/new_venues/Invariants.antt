use Rattle.std.proofs.Common.{◌≡◌, ◌<◌, [], length}
use Rattle.replay_reports.specs.stats.Statistics.{AreVenuesOf}
use Rattle.replay_reports.proofs.stats.replay_stats.new_venues.Given as goal

abbrev pub invariant-loop-place : goal.invariant-loop-place
invariant-loop-place l = record {
  count : length l.venues.items ≡ l._place;
  stats : 0 < l.window → AreVenuesOf l.window [] l.venues.items;
}
