-- What is reported of venues at the end of a run.
use Rattle.std.specs.Prelude.{◌≡◌, ℕ, ◌++◌, false, List, length, Option, Some, None, option_map, slice_get, if◌then◌else◌}
use Rattle.feed_types.specs.declared.missing_range.MissingRange.{MissingRange}
use Rattle.mold_packet.specs.declared.request.Request.{Request}
use Rattle.itch_book.specs.Books.{session_orders_of}
use Rattle.line_arbiter.specs.Packets.{Input}
use Rattle.line_arbiter.specs.Skips.{AllSent}
use Rattle.line_arbiter.specs.Streams.{gap_of}
use Rattle.event_sinks.specs.declared.venue_gap.VenueGap.{VenueGap}
use Rattle.venue_normaliser.specs.Brought.{has_skip_past, messages_brought}
use Rattle.venue_normaliser.specs.Outputs.{Opening, events_of}
use Rattle.normalising.specs.Normalised.{NormalisedHistory, NormalisedPoint, has_ended_early, inputs_of, quoted_keys}
use Rattle.normalising.specs.declared.normalised_feed.NormalisedFeed.{NormalisedFeed}
use Rattle.normalising.specs.declared.venue_report.VenueReport.{VenueReport}

-- the messages that a request is for
abbrev pub missing_by : Request → MissingRange
missing_by request = record { first = request.number; count = request.count }

-- the gap of a session that stands: that of the arbiter, or none where a gap was given up
abbrev pub standing_gap : (name : List ℕ) → (window sent : ℕ) → Opening → List Input
    → Option MissingRange
standing_gap name window sent opening packets =
    if has_skip_past opening.number packets then None
    else option_map missing_by (gap_of name window sent packets)

-- What is reported of a venue with this history: the gap that stands, and the messages that
-- changed no order, or took more than there was, unless a gap was given up. The counts aren't said.
pub record IsReportOfVenue (feed : NormalisedFeed) (place : ℕ) (h : NormalisedHistory)
    (report : VenueReport) : Type 0 where
  pub venue : report.venue ≡ place
  pub sent : ℕ
  pub all_sent : AllSent (inputs_of h) sent
  pub missing : report.missing ≡ standing_gap h.history.present.name feed.normaliser.window sent
      h.opening (inputs_of h)
  pub oddities : has_ended_early h ≡ false → report.oddities
      ≡ (session_orders_of (quoted_keys feed)
      (events_of (h.opening.messages ++ messages_brought h.opening.number (inputs_of h)))).oddities

-- The gaps are all that were given up, in that order, and each venue has its report.
pub record AreReported (feed : NormalisedFeed) (gaps : List VenueGap) (reports : List VenueReport)
    (at : NormalisedPoint) : Type 0 where
  pub gaps_are : gaps ≡ at.given_up
  pub count : length reports ≡ length at.venues
  pub each : (place : ℕ) (h : NormalisedHistory) (report : VenueReport)
      → slice_get at.venues place ≡ Some h → slice_get reports place ≡ Some report
      → IsReportOfVenue feed place h report
