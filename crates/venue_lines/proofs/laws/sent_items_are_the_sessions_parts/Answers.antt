use Rattle.venue_lines.proofs.SessionParts.{sent_parts}
use Rattle.venue_lines.proofs.laws.sent_items_are_the_sessions_parts.Goals as goal

pub returns : goal.returns
returns g c = λ cell all kept names within.
    sent_parts g.G.Genuine g.N.FeedName.lanes cell all kept names within
