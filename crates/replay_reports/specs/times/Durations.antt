-- Durations, counted by their size.
use Rattle.std.specs.Prelude.{◌≡◌, ℕ, ◌+◌, ◌*◌, ◌/◌, ◌<◌, ◌≤◌, nat_le, List, length, slice_index, sum}
use Rattle.std.specs.List.{count_by}
use Rattle.replay_reports.specs.declared.times.durations.Durations.{Durations}
use Rattle.replay_reports.specs.times.Figures.{capped, longest_of}
use Rattle.replay_reports.specs.times.Places.{is_at}

-- What is held of the durations.
pub record AreCounted (durations : List ℕ) (held : Durations) : Type 0 where
  pub count : held.count ≡ capped (length durations)
  pub total : held.total ≡ capped (sum durations)
  pub longest : held.longest ≡ longest_of durations
  pub size : length held.counts.items ≡ 976
  pub each : (place : ℕ) → place < 976
      → slice_index held.counts.items place ≡ capped (count_by (is_at place) durations)

-- how many durations are within a bound
abbrev pub count_within : ℕ → List ℕ → ℕ
count_within bound durations = count_by (λ duration. nat_le duration bound) durations

-- At least `share` of a thousand durations are within the bound, and fewer within any bound that it
-- exceeds by more than one sixteenth.
pub record IsShareBound (share : ℕ) (durations : List ℕ) (bound : ℕ) : Type 0 where
  pub within : length durations * share ≤ 1000 * count_within bound durations
  pub near : (shorter : ℕ) → shorter + shorter / 16 < bound
      → 1000 * count_within shorter durations < length durations * share
