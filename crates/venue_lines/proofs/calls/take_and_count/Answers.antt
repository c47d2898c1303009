use Rattle.venue_lines.proofs.Joins.{some_joining, some_next}
use Rattle.venue_lines.proofs.calls.take_and_count.Goals as goal

pub returns-clause-next : goal.returns-clause-next
returns-clause-next g c =
    let taken = c.take_in-taken.result in
    some_joining g.G.Genuine g.N.FeedName.lanes c.args.locked.now.next c.args.join taken.renewed
    taken.joined c.args.seat.now c.args.packet.now taken.answer c.take_in-taken.ensures.joins

pub returns-clause-joins : goal.returns-clause-joins
returns-clause-joins g c =
    let taken = c.take_in-taken.result in
    some_next g.G.Genuine g.N.FeedName.lanes c.args.locked.now.next c.args.join c.args.seat.now
    c.args.packet.now taken.answer c.show_following.ensures
    (some_joining g.G.Genuine g.N.FeedName.lanes c.args.locked.now.next c.args.join taken.renewed
    taken.joined c.args.seat.now c.args.packet.now taken.answer c.take_in-taken.ensures.joins)
