-- The figures of a replay, by its events. Of a list of events the last one stands first.
use Rattle.std.specs.Prelude.{◌≡◌, ℕ, List, length, slice_get, Some}
use Rattle.std.specs.List.{count_by}
use Rattle.feed_types.specs.declared.line.LineId.TheVariants.{A, B}
use Rattle.event_sinks.specs.SinkEvents.{TimedEvent}
use Rattle.replay_reports.specs.counts.Counts.{leads_bid, leads_offer, state_counts, venue_counts}
use Rattle.replay_reports.specs.declared.report.statistics_report.Report.{Report}
use Rattle.replay_reports.specs.declared.report.venue_report.VenueReport.{VenueReport}
use Rattle.replay_reports.specs.stats.Statistics.{events_at, untimed}
use Rattle.replay_reports.specs.times.Busiest.{IsPeak, messages_told}
use Rattle.replay_reports.specs.times.DurationStats.{AreDurationStats}
use Rattle.replay_reports.specs.times.Figures.{capped}
use Rattle.replay_reports.specs.times.Timing.{last_packets, leads_told}

-- Of a venue, by its own events: where line A is first, where line B is, and when the last packets
-- came.
pub record IsOwnReport (window : ℕ) (own : List TimedEvent) (r : VenueReport) : Type 0 where
  pub counts : r.counts ≡ venue_counts (untimed own)
  pub a_first : AreDurationStats (leads_told window A B own) r.a_first
  pub b_first : AreDurationStats (leads_told window B A own) r.b_first
  pub last_packets_are : r.last_packets ≡ last_packets own

-- And by all: the changes of national bests of which it leads a side.
pub record IsVenueReport (window place : ℕ) (events : List TimedEvent) (r : VenueReport)
    : Type 0 where
  pub own : IsOwnReport window (events_at place events) r
  pub bids : r.bids ≡ capped (count_by (leads_bid place) (untimed events))
  pub offers : r.offers ≡ capped (count_by (leads_offer place) (untimed events))

abbrev pub AreVenueReports : ℕ → List TimedEvent → List VenueReport → Type 0
AreVenueReports window events reports =
    (place : ℕ) (r : VenueReport) → slice_get reports place ≡ Some r
    → IsVenueReport window place events r

pub record IsReport (window : ℕ) (events : List TimedEvent) (r : Report) : Type 0 where
  pub venues : AreVenueReports window events r.venues.items
  pub states : r.states ≡ state_counts (untimed events)
  pub second : IsPeak 1000000000 (messages_told events) r.second
  pub millisecond : IsPeak 1000000 (messages_told events) r.millisecond
