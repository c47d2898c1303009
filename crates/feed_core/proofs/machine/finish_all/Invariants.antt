use Rattle.std.proofs.Common.{◌≡◌, ℕ, List, length}
use Rattle.feed_core.specs.Worlds.{Venue}
use Rattle.feed_core.specs.Fitting.{FitVenues, ShownTo}
use Rattle.feed_core.proofs.machine.finish_all.Given as goal

abbrev pub invariant-loop-place : goal.invariant-loop-place
invariant-loop-place l = record {
  count : length l.states.items ≡ length l.fn.states.items;
  shown : (window : ℕ) (vs : List Venue) → FitVenues window l.fn.states.items vs
      → ShownTo window l.place l.states.items vs;
}
