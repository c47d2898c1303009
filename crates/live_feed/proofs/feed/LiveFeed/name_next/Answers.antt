use Rattle.std.proofs.Common.{List, subst, sym}
use Rattle.venue_lines.specs.Starts.{StartState}
use Rattle.live_feed.specs.feed.Feeds.{IsClosed, feed_setting_of}
use Rattle.live_feed.proofs.NamedNext.{closed_followed, named, put_back}
use Rattle.live_feed.proofs.feed.LiveFeed.name_next.Goals as goal

pub invariant_of-self : goal.invariant_of-self
invariant_of-self g c =
    let feed = c.self.inside in
    let setting = feed_setting_of feed.kept feed.window feed.lane feed.log_lines in
    let followed = put_back feed.starts.items c.as_mut_slice.result.now c.follow_at.new.starts
    feed.starts.len c.args.venue c.args.names.items feed.starts.ok.0 c.as_mut_slice.ensures.value
    c.follow_at.ensures in
    subst (λ (l : List StartState). IsClosed setting l feed.from_venues.items feed.kept
    feed.spare_lanes.items) (sym followed)
    (closed_followed setting feed.starts.items feed.from_venues.items feed.kept
    feed.spare_lanes.items c.args.venue c.args.names.items c.self.invariant)

pub returns : goal.returns
returns g c =
    let feed = c.self.inside in
    let setting = feed_setting_of feed.kept feed.window feed.lane feed.log_lines in
    let followed = put_back feed.starts.items c.as_mut_slice.result.now c.follow_at.new.starts
    feed.starts.len c.args.venue c.args.names.items feed.starts.ok.0 c.as_mut_slice.ensures.value
    c.follow_at.ensures in
    named setting feed.starts.items _ feed.from_venues.items feed.kept feed.spare_lanes.items
    c.args.self.now c.args.venue c.args.names.items c.self.invariant c.self.view_is followed
