use Rattle.std.proofs.Common.{List, length, map, ap, subst, arith}
use Rattle.std.proofs.lemmas.List.{length-map}
use Rattle.venue_lines.specs.Seats.{SeatState}
use Rattle.live_feed.specs.settle.Settlements.{AllAgree, AreInOrder}
use Rattle.live_feed.proofs.Settled.{settlement}
use Rattle.live_feed.proofs.feed.open_feed.OpenFeed.settle.Goals as goal

pub close_lanes-requires-clause-venues : goal.close_lanes-requires-clause-venues
close_lanes-requires-clause-venues g c = λ venue cell at. (c.in-Ok-room_for.ensures.agree
    venue cell at).venue_is

pub close_lanes-requires-clause-order : goal.close_lanes-requires-clause-order
close_lanes-requires-clause-order g c = subst (λ l. AreInOrder (map (λ s. s.log) l))
    c.as_slice-4.ensures.value
    c.in-Ok-room_for.ensures.order

pub returns-in-Ok-room_for-clause-settled : goal.returns-in-Ok-room_for-clause-settled
returns-in-Ok-room_for-clause-settled g c =
    let cells = map (λ v. v.cell) c.in-Ok.unlocked.venues.items in
    let logs = map (λ s. s.log) c.args.subscribers.items in
    let agree = subst (λ (l : List SeatState). AllAgree l cells) c.as_slice-3.ensures.value
    c.in-Ok-room_for.ensures.agree in
    let order = subst (λ l. AreInOrder (map (λ s. s.log) l)) c.as_slice-4.ensures.value
    c.in-Ok-room_for.ensures.order in
    let counts = c.in-Ok-room_for.ensures.counts in
    let venues = length-map c.in-Ok.unlocked.venues.items (λ v. v.cell) in
    let subscribers = length-map c.args.subscribers.items (λ s. s.log) in
    let many = ap length c.as_slice-4.ensures.value in
    let first = counts.0 in
    let second = counts.1 in
    settlement g.G.Genuine g.N.FeedName.lanes c.args.seats.items cells
    c.in-Ok.unlocked.hub.core logs c.close_lanes.result
    c.close_lanes.ensures agree order (omega arith) (omega arith)
