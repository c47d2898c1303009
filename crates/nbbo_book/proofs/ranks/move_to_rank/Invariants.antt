use Rattle.std.proofs.Common.{◌≡◌, ℕ, ◌+◌, ◌-◌, ◌≤◌, ◌<◌, get_or, set, length, true, false}
use Rattle.std.specs.List.{insert, remove}
use Rattle.nbbo_book.specs.Ranks.{AreNoted, is_ahead}
use Rattle.nbbo_book.proofs.ranks.move_to_rank.Given as goal

abbrev pub invariant-up : goal.invariant-up
invariant-up l = record {
  within : l.at ≤ l.from;
  moved : set l.ranks l.at l.x ≡ insert (remove l.fn.ranks l.from) l.at l.x;
  passed : l.at < l.from → is_ahead l.order l.x (get_or (remove l.fn.ranks l.from) l.at l.x) ≡ true;
  noted : AreNoted (set l.places l.x.venue l.at) (set l.ranks l.at l.x);
}

abbrev pub decreases-up : goal.decreases-up
decreases-up l = l.at

abbrev pub invariant-down : goal.invariant-down
invariant-down l = record {
  within : l.at ≤ length (remove l.fn.ranks l.from);
  moved : set l.ranks l.at l.x ≡ insert (remove l.fn.ranks l.from) l.at l.x;
  stopped : (k : ℕ) → l.at ≡ k + 1
      → is_ahead l.order l.x (get_or (remove l.fn.ranks l.from) k l.x) ≡ false;
  noted : AreNoted (set l.places l.x.venue l.at) (set l.ranks l.at l.x);
}

abbrev pub decreases-down : goal.decreases-down
decreases-down l = l.count - l.at
