use Rattle.std.proofs.Common.{List, sym, ap, subst, ◌∙◌}
use Rattle.feed_types.specs.declared.journal.Notice.{Notice}
use Rattle.fifo_lane.specs.Lane.{LaneEnd}
use Rattle.feed_steps.specs.Lanes.{FeedLanes}
use Rattle.hub_lanes.specs.Hubs.{HubLockInvariant}
use Rattle.live_feed.proofs.FeedMoves.{fresh, have_lanes, starts_count}
use Rattle.live_feed.proofs.feed.LiveFeed.open.Goals as goal

pub new-core-requires : goal.new-core-requires
new-core-requires g c =
    let inside = c.self.inside in
    let premise = g.G.Genuine in
    let lanes = g.N.FeedName.lanes in
    subst (λ (l : List (LaneEnd Notice)). HubLockInvariant premise lanes (record {
      journal = inside.kept;
      receivers = inside.from_venues.items;
      senders = l;
      spare = inside.spare_lanes.items;
    }))
    (sym c.in-Ok-Ok-Ok.ensures'.items)
    (fresh inside.starts.items inside.from_venues.items inside.kept inside.spare_lanes.items
    _ lanes c.self.invariant
    (c.self.view_is ∙ c.requires) premise)

pub open-venues-requires-clause-lanes : goal.open-venues-requires-clause-lanes
open-venues-requires-clause-lanes g c =
    have_lanes c.self.inside.starts.items c.self.inside.from_venues.items c.self.inside.kept
    c.self.inside.spare_lanes.items _ g.N.FeedName.lanes c.self.invariant
    (c.self.view_is ∙ c.requires)

pub open-venues-requires-clause-count : goal.open-venues-requires-clause-count
open-venues-requires-clause-count g c =
    starts_count c.self.inside.starts.items c.self.inside.from_venues.items c.self.inside.kept
    c.self.inside.spare_lanes.items _ g.N.FeedName.lanes c.self.invariant
    (c.self.view_is ∙ c.requires)

pub new-log_size-requires : goal.new-log_size-requires
new-log_size-requires g c = ap (λ (l : FeedLanes). l.setting.log) (c.self.view_is ∙ c.requires)
