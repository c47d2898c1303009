use Rattle.std.proofs.Common.{ℕ, ◌≤◌, ◌<◌, length, get_or}
use Rattle.itch_book.specs.declared.level.Level.{Level}
use Rattle.itch_book.proofs.levels.place_of.Given as goal

abbrev pub invariant-loop-at : goal.invariant-loop-at
invariant-loop-at l = record {
  within : l.at ≤ length l.levels;
  from : (k : ℕ) (d : Level) → l.at ≤ k → k < length l.levels
      → l.rank ≤ (get_or l.levels k d).rank;
}

abbrev pub decreases-loop-at : goal.decreases-loop-at
decreases-loop-at l = l.at
