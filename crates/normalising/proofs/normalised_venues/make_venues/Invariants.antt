use Rattle.std.proofs.Common.{◌≡◌, length}
use Rattle.normalising.specs.Keeping.{FollowNew}
use Rattle.normalising.proofs.normalised_venues.make_venues.Given as goal

abbrev pub invariant-loop-place : goal.invariant-loop-place
invariant-loop-place l = record {
  follow : FollowNew l.settings l.venues.items;
  count : length l.venues.items ≡ l.place;
}
