-- What is held of a replay's events. Of a list of events the last one stands first.
use Rattle.std.specs.Prelude.{◌≡◌, ℕ, ◌==◌, Bool, false, List, map, filter, slice_get, Some}
use Rattle.event_sinks.specs.SinkEvents.{SinkEvent, TimedEvent, told_packet, told_refusal, told_item, told_renewal, told_skip, told_declaration, told_last}
use Rattle.replay_reports.specs.declared.stats.venue_stats.VenueStats.{VenueStats}
use Rattle.replay_reports.specs.declared.stats.replay_stats.ReplayStats.{ReplayStats}
use Rattle.replay_reports.specs.counts.Counts.{best_counts, venue_counts}
use Rattle.replay_reports.specs.times.Busiest.{HoldsBusiest, messages_told}
use Rattle.replay_reports.specs.times.VenueTiming.{IsVenueTimed}

-- what events say, without their times
abbrev pub untimed : List TimedEvent → List SinkEvent
untimed events = map (λ e. e.event) events

-- it is an event of this venue
abbrev pub is_at_venue : ℕ → SinkEvent → Bool
is_at_venue venue (told_packet at line number count bytes answer) = at == venue
is_at_venue venue (told_refusal at line fault) = at == venue
is_at_venue venue (told_item at numbered) = at == venue
is_at_venue venue (told_renewal at answer) = at == venue
is_at_venue venue (told_skip at number answer) = at == venue
is_at_venue venue (told_declaration at on position) = at == venue
is_at_venue venue (told_last at sent a b recovery) = at == venue
is_at_venue venue _ = false

abbrev pub events_at : ℕ → List TimedEvent → List TimedEvent
events_at venue events = filter (λ e. is_at_venue venue e.event) events

-- Of a venue, after these events of it.
pub record IsVenueOf (window : ℕ) (own : List TimedEvent) (v : VenueStats) : Type 0 where
  pub counts : v.counts ≡ venue_counts (untimed own)
  pub times : IsVenueTimed window own v.times

abbrev pub AreVenuesOf : ℕ → List TimedEvent → List VenueStats → Type 0
AreVenuesOf window events venues =
    (place : ℕ) (v : VenueStats) → slice_get venues place ≡ Some v
    → IsVenueOf window (events_at place events) v

-- Of all venues, of the national bests, and of the busiest periods.
pub record AreStatsOf (window : ℕ) (events : List TimedEvent) (s : ReplayStats) : Type 0 where
  pub venues : AreVenuesOf window events s.venues.items
  pub bests : s.bests ≡ best_counts (untimed events)
  pub second : HoldsBusiest 1000000000 (messages_told events) s.second
  pub millisecond : HoldsBusiest 1000000 (messages_told events) s.millisecond
