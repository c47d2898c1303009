-- What a sink of statistics makes of events.
use Rattle.std.specs.Prelude.{◌≡◌, ℕ, List, ◌++◌, length, reverse}
use Rattle.event_sinks.specs.SinkEvents.{TimedEvent}
use Rattle.replay_reports.specs.declared.stats.replay_stats.ReplayStats.{ReplayStats}
use Rattle.replay_reports.specs.stats.Statistics.{AreStatsOf}

-- Whatever events the sink took before, it took these after them.
pub record TakesStats (before : ReplayStats) (events : List TimedEvent) (after : ReplayStats)
    : Type 0 where
  pub same_times : after.has_times ≡ before.has_times
  pub same_venues : length after.venues.items ≡ length before.venues.items
  pub stats : (window : ℕ) (earlier : List TimedEvent) → AreStatsOf window earlier before
      → AreStatsOf window (reverse events ++ earlier) after
