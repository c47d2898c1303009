use Rattle.std.proofs.Common.{◌≡◌, length, map}
use Rattle.live_feed.specs.settle.Rooms.{HaveVenueRooms}
use Rattle.live_feed.proofs.settle.rooms.venue_rooms.Given as goal

abbrev pub invariant-loop-place : goal.invariant-loop-place
invariant-loop-place g l = record {
  count : length l.rooms.items ≡ l.place;
  rooms : HaveVenueRooms l.entries (map (λ x. x.cell) l.venues) l.rooms.items;
}
