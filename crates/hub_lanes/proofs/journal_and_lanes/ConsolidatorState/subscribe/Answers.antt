use Rattle.std.proofs.Common.{◌++◌, ◌∷◌, [], List, refl, sym, ap, subst, ◌∙◌}
use Rattle.std.specs.Prelude.{slice_get}
use Rattle.feed_types.specs.declared.journal.Notice.{Notice}
use Rattle.fifo_lane.specs.Lane.{LaneEnd}
use Rattle.hub_lanes.specs.Hubs.{HubState}
use Rattle.hub_lanes.specs.Sections.{AddsSubscriber}
use Rattle.hub_lanes.proofs.HubMoves.{subscribes, spare_end}
use Rattle.hub_lanes.proofs.journal_and_lanes.ConsolidatorState.subscribe.Goals as goal

pub invariant_of-self-2 : goal.invariant_of-self-2
invariant_of-self-2 g c =
    let senders = c.push_reserved.ensures.items
    ∙ ap (λ (l : List (LaneEnd Notice)). l ++ c.in-Some.spare.sender ∷ [])
    c.reserve.ensures.items in
    subscribes g.G.Genuine g.N.FeedName.lanes _ c.in-Some.spare
    c.pop_front.new.self.items c.subscribe.new.self
    c.push_reserved.new.self.items c.args.terms c.self.invariant
    c.in-Some.ensures.items c.in-Ok.ensures.0.2 senders

pub returns : goal.returns
returns g c =
    let senders = c.push_reserved.ensures.items
    ∙ ap (λ (l : List (LaneEnd Notice)). l ++ c.in-Some.spare.sender ∷ [])
    c.reserve.ensures.items in
    let spare = spare_end g.G.Genuine g.N.FeedName.lanes _ c.in-Some.spare
    c.pop_front.new.self.items c.self.invariant
    c.in-Some.ensures.items in
    let id_is = c.in-Ok.ensures.0.0 in
    let new : HubState = record {
      journal = c.subscribe.new.self;
      receivers = c.self.inside.from_venues.items;
      senders = c.push_reserved.new.self.items;
      spare = c.pop_front.new.self.items;
    } in
    subst (λ (s : HubState). AddsSubscriber g.N.FeedName.lanes c.args.terms c.in-Ok.id
    c.in-Some.spare.receiver s new)
    c.self.view_is (record {
      journal = c.in-Ok.ensures;
      tag = spare.1 ∙ sym id_is;
      lane = ap (slice_get g.N.FeedName.lanes.subscribers) id_is ∙ spare.3;
      capacity = spare.4;
      empty = spare.2;
      senders = senders ∙ ap (λ (e : LaneEnd Notice). c.self.inside.to_subscribers.items
          ++ e ∷ []) (sym spare.0);
      receivers = refl;
    })
