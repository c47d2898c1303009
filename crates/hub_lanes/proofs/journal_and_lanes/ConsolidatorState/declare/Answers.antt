use Rattle.hub_lanes.proofs.HubMoves.{declare_kept}
use Rattle.hub_lanes.proofs.journal_and_lanes.ConsolidatorState.declare.Goals as goal

pub invariant_of-self : goal.invariant_of-self
invariant_of-self g c =
    declare_kept g.G.Genuine g.N.FeedName.lanes _ c.args.venue c.args.on
    c.declare-declared.result c.declare-declared.new.self
    c.self.invariant c.declare-declared.ensures.declares
