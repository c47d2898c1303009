use Rattle.hub_lanes.proofs.OfSessions.{journaled_of_sessions}
use Rattle.hub_lanes.proofs.laws.journaled_items_are_the_sessions.Goals as goal

pub returns : goal.returns
returns g c = λ s venue all hub below names.
    journaled_of_sessions g.G.Genuine
    c.sequence_is_of_the_sessions.ensures g.N.FeedName.lanes s venue all hub below names
