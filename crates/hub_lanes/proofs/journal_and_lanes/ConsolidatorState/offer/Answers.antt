use Rattle.std.proofs.Common.{◌≡◌, ◌<◌, ◌+◌, ℕ, length, Option, Some, Ok, Err, refl, sym, subst, ◌∙◌, arith}
use Rattle.std.specs.Prelude.{slice_get, slice_set, IfSome}
use Rattle.feed_types.specs.declared.journal.Notice.{Notice}
use Rattle.fifo_lane.specs.Lane.{LaneEnd}
use Rattle.journal_book.specs.declared.cursor.Cursor.{Cursor}
use Rattle.journal_book.specs.CursorLaws.{goes_past}
use Rattle.feed_types.specs.ListLaws.{get_within}
use Rattle.hub_lanes.specs.Hubs.{HubState}
use Rattle.hub_lanes.specs.Sections.{HubOffersOne, KeepsButOffersTo, LooksOn}
use Rattle.feed_steps.specs.declared.unsent.Unsent.TheVariants as unsent
use Rattle.feed_steps.specs.laws.Lists.{at_index}
use Rattle.hub_lanes.proofs.HubMoves.{passes_kept, looks_only, looks_kept, offers_kept, offer_may, offer_nothing, offer_full, offer_keeps, offer_one}
use Rattle.hub_lanes.proofs.journal_and_lanes.ConsolidatorState.offer.Given.{Over}
use Rattle.hub_lanes.proofs.journal_and_lanes.ConsolidatorState.offer.Goals as goal
use Rattle.hub_lanes.proofs.journal_and_lanes.ConsolidatorState.offer.Goals.{After-index_mut-sender, After-seek_offer}

-- the subscriber has a lane
lane_there : (g : Over) (c : After-seek_offer g)
    → (e : LaneEnd Notice) × (slice_get c.self.inside.to_subscribers.items c.args.id ≡ Some e)
lane_there g c =
    let known = subst (λ (s : HubState). c.args.id < length s.journal.cursors)
    (sym c.self.view_is) c.requires in
    let count = c.self.invariant.subscribers in
    get_within c.self.inside.to_subscribers.items c.args.id (omega arith)

pub invariant_of-self : goal.invariant_of-self
invariant_of-self g c =
    let there = lane_there g (goal.at.invariant_of-self g c).After-seek_offer in
    passes_kept g.G.Genuine g.N.FeedName.lanes _ c.args.id c.saturating_sub-most.result
    there.0 c.seek_offer.new.self
    c.self.invariant there.1 c.in-Err.ensures.unfinished

pub returns-in-Err-clause-looks : goal.returns-in-Err-clause-looks
returns-in-Err-clause-looks g c =
    let passes = c.in-Err.ensures.unfinished in
    let seen : c.seen.result ≡ passes.cursor.seen =
    subst (λ (o : Option Cursor). IfSome o (λ cursor. c.seen.result ≡ cursor.seen))
    passes.at c.seen.ensures.value in
    subst (λ (x : HubState). LooksOn c.args.id c.args.to x (record {
      journal = c.seek_offer.new.self;
      receivers = c.self.inside.from_venues.items;
      senders = c.self.inside.to_subscribers.items;
      spare = c.self.inside.spare_lanes.items;
    })) c.self.view_is (record {
      most = c.saturating_sub-most.result;
      passes = passes;
      up_to = let left = c.saturating_sub-most.ensures in omega (arith, left, seen);
      others = refl;
    })

pub returns-in-Err-clause-kept : goal.returns-in-Err-clause-kept
returns-in-Err-clause-kept g c =
    let passes = c.in-Err.ensures.unfinished in
    let new = c.seek_offer.new.self in
    subst (λ (x : HubState). KeepsButOffersTo c.args.id x (record {
      journal = new;
      receivers = c.self.inside.from_venues.items;
      senders = c.self.inside.to_subscribers.items;
      spare = c.self.inside.spare_lanes.items;
    }))
    c.self.view_is (offer_keeps _ c.args.id (passes.cursor.seen + c.saturating_sub-most.result)
    passes.cursor new _
    passes.at passes.moved)

pub invariant_of-self-in_default : goal.invariant_of-self-in_default
invariant_of-self-in_default g c =
    let goes = c.in-Ok.ensures.goes in
    let there = lane_there g (goal.at.invariant_of-self-in_default g c).After-seek_offer in
    looks_only g.G.Genuine g.N.FeedName.lanes _ c.args.id goes.place c.self.invariant
    there.0 there.1 goes.cursor
    goes.at goes.next c.seek_offer.new.self goes.moved

pub returns-in_default-clause-offer : goal.returns-in_default-clause-offer
returns-in_default-clause-offer g c =
    let goes = c.in-Ok.ensures.goes in
    let there = lane_there g (goal.at.returns-in_default-clause-offer g c).After-seek_offer in
    subst (λ (x : HubState). HubOffersOne c.args.id (Err unsent.Nothing) x
    (record {
      journal = c.seek_offer.new.self;
      receivers = c.self.inside.from_venues.items;
      senders = c.self.inside.to_subscribers.items;
      spare = c.self.inside.spare_lanes.items;
    })) c.self.view_is
    (offer_nothing g.G.Genuine g.N.FeedName.lanes _ c.args.id goes.place c.self.invariant
    there.0 there.1 goes.cursor
    goes.at goes.next c.seek_offer.new.self (sym c.in_default.is ∙ goes.found_is))

-- the sending end that is pushed into is the subscriber's
sender_at : (g : Over) (c : After-index_mut-sender g)
    → slice_get c.self.inside.to_subscribers.items c.args.id ≡ Some c.index_mut-sender.result.now
sender_at g c =
    let known = subst (λ (s : HubState). c.args.id < length s.journal.cursors)
    (sym c.self.view_is) c.requires in
    let count = c.self.invariant.subscribers in
    let index = c.index.ensures.value in
    at_index c.self.inside.to_subscribers.items c.index.result c.args.id
    c.index_mut-sender.result.now index
    (omega arith) c.index_mut-sender.ensures.value

pub push-requires : goal.push-requires
push-requires g c =
    let goes = c.in-Ok.ensures.goes in
    let from = sender_at g (goal.at.push-requires g c).After-index_mut-sender in
    offer_may g.G.Genuine g.N.FeedName.lanes _ c.args.id goes.place c.self.invariant
    c.index_mut-sender.result.now from
    goes.cursor goes.at goes.next c.in-Some.notice (sym c.in-Some.is ∙ goes.found_is)

pub invariant_of-self-in-Ok-push : goal.invariant_of-self-in-Ok-push
invariant_of-self-in-Ok-push g c =
    let goes = c.in-Ok.ensures.goes in
    let index = c.index.ensures.value in
    let from = sender_at g (goal.at.invariant_of-self-in-Ok-push g c).After-index_mut-sender in
    rw index (offers_kept g.G.Genuine g.N.FeedName.lanes _ c.args.id goes.place c.self.invariant
    c.index_mut-sender.result.now from goes.cursor goes.at goes.next
    c.advance_cursor.new.self c.push.new.self
    c.in-Some.notice (sym c.in-Some.is ∙ goes.found_is)
    (goes_past c.self.inside.kept c.seek_offer.new.self c.advance_cursor.new.self c.args.id _ goes
    c.advance_cursor.ensures) c.in-Ok-push.ensures)

pub invariant_of-self-in-Err-push : goal.invariant_of-self-in-Err-push
invariant_of-self-in-Err-push g c =
    let goes = c.in-Ok.ensures.goes in
    let index = c.index.ensures.value in
    let from = sender_at g (goal.at.invariant_of-self-in-Err-push g c).After-index_mut-sender in
    rw index (looks_kept g.G.Genuine g.N.FeedName.lanes _ c.args.id goes.place c.self.invariant
    c.index_mut-sender.result.now from goes.cursor goes.at goes.next
    c.seek_offer.new.self c.push.new.self
    goes.moved c.in-Err-push.ensures.1)

pub returns-in-Ok-push-clause-offer : goal.returns-in-Ok-push-clause-offer
returns-in-Ok-push-clause-offer g c =
    let goes = c.in-Ok.ensures.goes in
    let index = c.index.ensures.value in
    let from = sender_at g (goal.at.returns-in-Ok-push-clause-offer g c).After-index_mut-sender in
    subst (λ (x : HubState × ℕ). HubOffersOne c.args.id (Ok c.in-Some.notice.number) x.0
    (record {
      journal = c.advance_cursor.new.self;
      receivers = c.self.inside.from_venues.items;
      senders = slice_set c.self.inside.to_subscribers.items x.1 c.push.new.self;
      spare = c.self.inside.spare_lanes.items;
    }))
    (λ i. (c.self.view_is i, sym index i))
    (offer_one g.G.Genuine g.N.FeedName.lanes _ c.args.id goes.place c.self.invariant
    c.index_mut-sender.result.now from
    goes.cursor goes.at goes.next c.advance_cursor.new.self c.in-Some.notice c.push.new.self
    c.in-Some.notice.number (sym c.in-Some.is ∙ goes.found_is) refl c.in-Ok-push.ensures)

pub returns-in-Err-push-clause-offer : goal.returns-in-Err-push-clause-offer
returns-in-Err-push-clause-offer g c =
    let goes = c.in-Ok.ensures.goes in
    let index = c.index.ensures.value in
    let from = sender_at g (goal.at.returns-in-Err-push-clause-offer g c).After-index_mut-sender in
    subst (λ (x : HubState × ℕ). HubOffersOne c.args.id (Err unsent.LaneFull) x.0
    (record {
      journal = c.seek_offer.new.self;
      receivers = c.self.inside.from_venues.items;
      senders = slice_set c.self.inside.to_subscribers.items x.1 c.push.new.self;
      spare = c.self.inside.spare_lanes.items;
    }))
    (λ i. (c.self.view_is i, sym index i))
    (offer_full g.G.Genuine g.N.FeedName.lanes _ c.args.id goes.place c.self.invariant
    c.index_mut-sender.result.now
    from goes.cursor goes.at goes.next c.seek_offer.new.self c.in-Some.notice c.push.new.self
    (sym c.in-Some.is ∙ goes.found_is) c.in-Err-push.ensures.1 c.in-Err-push.ensures.2)

pub returns-in_default-clause-kept : goal.returns-in_default-clause-kept
returns-in_default-clause-kept g c =
    let goes = c.in-Ok.ensures.goes in
    let new = c.seek_offer.new.self in
    subst (λ (x : HubState). KeepsButOffersTo c.args.id x (record {
      journal = new;
      receivers = c.self.inside.from_venues.items;
      senders = c.self.inside.to_subscribers.items;
      spare = c.self.inside.spare_lanes.items;
    }))
    c.self.view_is (offer_keeps _ c.args.id goes.place goes.cursor new _ goes.at goes.moved)

pub returns-in-Ok-push-clause-kept : goal.returns-in-Ok-push-clause-kept
returns-in-Ok-push-clause-kept g c =
    let goes = c.in-Ok.ensures.goes in
    let new = c.advance_cursor.new.self in
    let past = goes_past c.self.inside.kept c.seek_offer.new.self new c.args.id _ goes
    c.advance_cursor.ensures in
    subst (λ (x : HubState). KeepsButOffersTo c.args.id x (record {
      journal = new;
      receivers = c.self.inside.from_venues.items;
      senders = slice_set c.self.inside.to_subscribers.items c.index.result c.push.new.self;
      spare = c.self.inside.spare_lanes.items;
    }))
    c.self.view_is (offer_keeps _ c.args.id (goes.place + 1) goes.cursor new _ goes.at past)

pub returns-in-Err-push-clause-kept : goal.returns-in-Err-push-clause-kept
returns-in-Err-push-clause-kept g c =
    let goes = c.in-Ok.ensures.goes in
    let new = c.seek_offer.new.self in
    subst (λ (x : HubState). KeepsButOffersTo c.args.id x (record {
      journal = new;
      receivers = c.self.inside.from_venues.items;
      senders = slice_set c.self.inside.to_subscribers.items c.index.result c.push.new.self;
      spare = c.self.inside.spare_lanes.items;
    }))
    c.self.view_is (offer_keeps _ c.args.id goes.place goes.cursor new _ goes.at goes.moved)
