use Rattle.venue_lines.proofs.OfSessions.{sent_of_sessions}
use Rattle.venue_lines.proofs.laws.sent_items_are_the_sessions.Goals as goal

pub returns : goal.returns
returns g c = λ cell all kept names.
    sent_of_sessions g.G.Genuine c.sequence_is_of_the_sessions.ensures g.N.FeedName.lanes
    cell all kept names
