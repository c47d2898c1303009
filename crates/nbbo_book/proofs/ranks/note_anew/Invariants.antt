use Rattle.std.proofs.Common.{ℕ, ◌≡◌, ◌+◌, ◌<◌, ◌≤◌, get_or, length}
use Rattle.feed_types.specs.declared.national.Best.{Best}
use Rattle.nbbo_book.proofs.ranks.note_anew.Given as goal

abbrev pub invariant-loop-at : goal.invariant-loop-at
invariant-loop-at l = record {
  before : (k : ℕ) (x : Best) → k < l.at → k < length l.ranks
      → get_or l.places (get_or l.ranks k x).venue 16 ≡ k;
  after : (k : ℕ) (x : Best) → l.at ≤ k → k < length l.ranks
      → get_or l.places (get_or l.ranks k x).venue 16 ≡ k + 1;
}
