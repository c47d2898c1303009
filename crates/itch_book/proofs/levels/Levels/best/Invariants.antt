use Rattle.std.proofs.Common.{◌≡◌, ◌≤◌, ◌<◌, length, drop}
use Rattle.std.specs.Prelude.{sum_by}
use Rattle.itch_book.proofs.Rising.{shares_of}
use Rattle.itch_book.proofs.levels.Levels.best.Given as goal

abbrev pub invariant-loop-at : goal.invariant-loop-at
invariant-loop-at l = record {
  within : l.at ≤ length l.self;
  passed : l.shares ≡ sum_by shares_of (drop l.at l.self);
  short : l.shares < l.lot;
}

abbrev pub decreases-loop-at : goal.decreases-loop-at
decreases-loop-at l = l.at
