use Rattle.std.proofs.Common.{◌≡◌, ℕ, ◌^◌, ◌<◌, List, length}
use Rattle.replay_reports.specs.times.Durations.{AreCounted}
use Rattle.replay_reports.specs.times.Places.{first_at}
use Rattle.replay_reports.proofs.Sharing.{count_before}
use Rattle.replay_reports.proofs.times.durations.Durations.bound_of.Given as goal

abbrev pub invariant-loop-place : goal.invariant-loop-place
invariant-loop-place l =
    (durations : List ℕ) → AreCounted durations l.fn.self → length durations < 2 ^ 64
    → (l.seen ≡ count_before (first_at l.place) durations) × (0 < l.place → l.seen < l.wanted)
