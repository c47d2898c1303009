use Rattle.std.proofs.Common.{◌≡◌, ◌<◌, ℕ, Ok, Err, Some, None, sym, subst, arith}
use Rattle.std.specs.Prelude.{slice_get, slice_set}
use Rattle.feed_steps.specs.laws.Lists.{at_index}
use Rattle.feed_types.specs.ListLaws.{get_within}
use Rattle.hub_lanes.specs.Hubs.{HubState}
use Rattle.hub_lanes.specs.Sections.{Consumes, ConsumesOne}
use Rattle.hub_lanes.proofs.HubMoves.{consume_refused, consume_none, consume_none_kept, consume_one, consume_one_kept}
use Rattle.hub_lanes.proofs.journal_and_lanes.ConsolidatorState.consume.Given.{Over}
use Rattle.hub_lanes.proofs.journal_and_lanes.ConsolidatorState.consume.Goals as goal
use Rattle.hub_lanes.proofs.journal_and_lanes.ConsolidatorState.consume.Goals.{After-index_mut-receiver}

pub returns-in-Err-clause-consume : goal.returns-in-Err-clause-consume
returns-in-Err-clause-consume g c =
    let known = subst (λ (s : HubState). c.args.venue < s.journal.venues)
    (sym c.self.view_is) c.requires in
    let count = c.self.invariant.venues in
    let there = get_within c.self.inside.from_venues.items c.args.venue (omega arith) in
    subst (λ (s : HubState). Consumes c.args.venue (Err c.in-Err.fault) s
    (record {
      journal = c.reserve_one.new.self;
      receivers = c.self.inside.from_venues.items;
      senders = c.self.inside.to_subscribers.items;
      spare = c.self.inside.spare_lanes.items;
    })) c.self.view_is
    (consume_refused c.args.venue _ there.0 there.1 c.in-Err.fault
    c.reserve_one.new.self c.in-Err.ensures)

-- the receiving end that is taken from is the venue's
receiver_at : (g : Over) (c : After-index_mut-receiver g)
    → slice_get c.self.inside.from_venues.items c.args.venue ≡ Some c.index_mut-receiver.result.now
receiver_at g c =
    let known = subst (λ (s : HubState). c.args.venue < s.journal.venues)
    (sym c.self.view_is) c.requires in
    let count = c.self.invariant.venues in
    let index = c.index.ensures.value in
    at_index c.self.inside.from_venues.items c.index.result c.args.venue
    c.index_mut-receiver.result.now index
    (omega arith) c.index_mut-receiver.ensures.value

pub invariant_of-self-in_default : goal.invariant_of-self-in_default
invariant_of-self-in_default g c =
    let index = c.index.ensures.value in
    let at = receiver_at g (goal.at.invariant_of-self-in_default g c).After-index_mut-receiver in
    rw index (consume_none_kept c.args.venue _ c.index_mut-receiver.result.now
    at c.reserve_one.new.self
    c.pop_by.new.self c.in-Ok.ensures.0 c.in-Ok.ensures.1
    g.G.Genuine g.N.FeedName.lanes c.self.invariant c.in_default.ensures.popped)

pub returns-in_default-clause-consume : goal.returns-in_default-clause-consume
returns-in_default-clause-consume g c =
    let index = c.index.ensures.value in
    let at = receiver_at g (goal.at.returns-in_default-clause-consume g c).After-index_mut-receiver
    in
    subst (λ (x : HubState × ℕ). ConsumesOne c.args.venue (Ok None) x.0 (record {
      journal = c.reserve_one.new.self;
      receivers = slice_set c.self.inside.from_venues.items x.1 c.pop_by.new.self;
      senders = c.self.inside.to_subscribers.items;
      spare = c.self.inside.spare_lanes.items;
    }))
    (λ i. (c.self.view_is i, sym index i))
    (consume_none c.args.venue _ c.index_mut-receiver.result.now at
    c.reserve_one.new.self c.pop_by.new.self
    c.in-Ok.ensures.0 c.in-Ok.ensures.1 c.in_default.ensures.popped)

pub invariant_of-self-2 : goal.invariant_of-self-2
invariant_of-self-2 g c =
    let index = c.index.ensures.value in
    let at = receiver_at g (goal.at.invariant_of-self-2 g c).After-index_mut-receiver in
    rw index (consume_one_kept c.args.venue _ c.index_mut-receiver.result.now
    at c.reserve_one.new.self
    c.pop_by.new.self c.in-Ok.ensures.0 c.in-Ok.ensures.1 c.in-Some.numbered
    c.record.new.self c.record.result
    c.in-Some.ensures.popped c.record.ensures.journals
    g.G.Genuine g.N.FeedName.lanes c.self.invariant c.in-Some.ensures.rule)

pub returns-clause-consume : goal.returns-clause-consume
returns-clause-consume g c =
    let index = c.index.ensures.value in
    let at = receiver_at g (goal.at.returns-clause-consume g c).After-index_mut-receiver in
    subst (λ (x : HubState × ℕ). ConsumesOne c.args.venue (Ok (Some c.record.result)) x.0
    (record {
      journal = c.record.new.self;
      receivers = slice_set c.self.inside.from_venues.items x.1 c.pop_by.new.self;
      senders = c.self.inside.to_subscribers.items;
      spare = c.self.inside.spare_lanes.items;
    }))
    (λ i. (c.self.view_is i, sym index i))
    (consume_one c.args.venue _ c.index_mut-receiver.result.now at
    c.reserve_one.new.self c.pop_by.new.self
    c.in-Ok.ensures.0 c.in-Ok.ensures.1 c.in-Some.numbered c.record.new.self c.record.result
    c.in-Some.ensures.popped
    c.record.ensures.journals c.record.ensures.position)
