-- The figures of durations.
use Rattle.std.specs.Prelude.{◌≡◌, ℕ, ◌^◌, ◌<◌, List, length}
use Rattle.replay_reports.specs.declared.times.duration_stats.DurationStats.{DurationStats}
use Rattle.replay_reports.specs.times.Durations.{IsShareBound}
use Rattle.replay_reports.specs.times.Figures.{capped, longest_of, mean_of}

-- how many durations there are, their mean, bounds of half of them, of 90 and 99 of a hundred and
-- of 999 of a thousand, and the longest
pub record AreDurationStats (durations : List ℕ) (s : DurationStats) : Type 0 where
  pub count : s.count ≡ capped (length durations)
  pub mean : s.mean ≡ mean_of durations
  pub p50 : length durations < 2 ^ 64 → IsShareBound 500 durations s.p50
  pub p90 : length durations < 2 ^ 64 → IsShareBound 900 durations s.p90
  pub p99 : length durations < 2 ^ 64 → IsShareBound 990 durations s.p99
  pub p999 : length durations < 2 ^ 64 → IsShareBound 999 durations s.p999
  pub max : s.max ≡ longest_of durations
