use Rattle.std.proofs.Common.{ℕ, List, drop, None}
use Rattle.line_arbiter.specs.Histories.{History}
use Rattle.event_sinks.specs.SinkEvents.{at_time}
use Rattle.feed_text.specs.Tellings.{lasts_told}
use Rattle.feed_text.specs.Following.{FollowAll}
use Rattle.feed_text.proofs.venues.ReplayVenues.tell_last.Given as goal

abbrev pub invariant-loop-venue : goal.invariant-loop-venue
invariant-loop-venue g l = record {
  took : (window : ℕ) (hs : List History) → FollowAll window l.self.items hs → (end : g.row.K.Denot)
      → g.K.EventSink.takes l.sink (at_time None (lasts_told l.venue-index (drop l.venue-index hs)))
      end → g.K.EventSink.takes l.fn.sink (at_time None (lasts_told 0 hs)) end;
  failed : (window : ℕ) (hs : List History) → FollowAll window l.self.items hs
      → (end : g.row.K.Denot)
      → g.K.EventSink.fails l.sink (at_time None (lasts_told l.venue-index (drop l.venue-index hs)))
      end → g.K.EventSink.fails l.fn.sink (at_time None (lasts_told 0 hs)) end;
}
