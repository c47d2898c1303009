use Rattle.std.proofs.Common.{◌≡◌, ◌≤◌, ℕ, List, length}
use Rattle.event_sinks.specs.SinkEvents.{TimedEvent}
use Rattle.replay_reports.specs.counts.Counts.{best_counts}
use Rattle.replay_reports.specs.report.Reports.{AreVenueReports}
use Rattle.replay_reports.specs.stats.Statistics.{AreVenuesOf, untimed}
use Rattle.replay_reports.proofs.stats.replay_stats.venue_reports.Given as goal

abbrev pub invariant-loop-place : goal.invariant-loop-place
invariant-loop-place l = record {
  count : length l.reports.items ≡ l.place;
  reports : (window : ℕ) (events : List TimedEvent) → length l.venues ≤ 16
      → AreVenuesOf window events l.venues → l.bests ≡ best_counts (untimed events)
      → AreVenueReports window events l.reports.items;
}
