use Rattle.std.proofs.Common.{◌≡◌, ◌≤◌, ◌+◌, ℕ, List, ◌++◌, drop, length}
use Rattle.std.specs.Prelude.{vec_capacity}
use Rattle.line_arbiter.specs.Histories.{History}
use Rattle.feed_text.specs.Lacks.{lacks_of}
use Rattle.feed_text.specs.Following.{FollowAll}
use Rattle.feed_text.proofs.venues.ReplayVenues.put_lacks.Given as goal

abbrev pub invariant-loop-venue : goal.invariant-loop-venue
invariant-loop-venue l = record {
  lacks : (window : ℕ) (hs : List History) → FollowAll window l.self.items hs → l.lacks.items
      ++ lacks_of window l.venue-index (drop l.venue-index hs) ≡ l.fn.lacks.items
      ++ lacks_of window 0 hs;
  most : length l.lacks.items ≤ length l.fn.lacks.items + l.venue-index;
  capacity : vec_capacity l.lacks ≡ vec_capacity l.fn.lacks;
}
