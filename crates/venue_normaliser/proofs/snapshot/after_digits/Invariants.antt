use Rattle.std.proofs.Common.{◌≡◌, ℕ, ◌<◌, ◌≤◌, get_or, true}
use Rattle.venue_normaliser.specs.Snapshots.{is_digit}
use Rattle.venue_normaliser.proofs.snapshot.after_digits.Given as goal

abbrev pub invariant-loop-place : goal.invariant-loop-place
invariant-loop-place l =
    (k : ℕ) → l.from ≤ k → k < l.place → is_digit (get_or l.field k 0) ≡ true
