use Rattle.std.proofs.Common.{◌≡◌, ℕ, ◌<◌, ◌≤◌, get_or, true}
use Rattle.feed_types.specs.Symbols.{is_space}
use Rattle.venue_normaliser.proofs.snapshot.after_spaces.Given as goal

abbrev pub invariant-loop-place : goal.invariant-loop-place
invariant-loop-place l =
    (k : ℕ) → l.from ≤ k → k < l.place → is_space (get_or l.field k 0) ≡ true
