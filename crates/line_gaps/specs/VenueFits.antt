-- The gaps of a venue, as they are kept after its events. Of a list of events the last one stands
-- first.
use Rattle.std.specs.Prelude.{◌≡◌, ℕ, ◌+◌, ◌-◌, ◌≤◌, Bool, true, false, None, Some, Result, List, [], ◌∷◌, ◌++◌, length, min}
use Rattle.std.specs.List.{AllByRecursion}
use Rattle.feed_types.specs.declared.line.LineId.{LineId}
use Rattle.feed_types.specs.FullCounts.{count_after}
use Rattle.feed_types.specs.PerLines.{on_line}
use Rattle.event_sinks.specs.SinkEvents.{TimedEvent, timed_event, told_packet}
use Rattle.line_arbiter.specs.declared.outcome.LineFault.{LineFault}
use Rattle.line_arbiter.specs.declared.outcome.Outcome.{Outcome}
use Rattle.line_gaps.specs.declared.gap_line.GapLine.{GapLine}
use Rattle.line_gaps.specs.declared.gap_line.GapLine.TheVariants as lines
use Rattle.line_gaps.specs.declared.heard_packet.TimedPacket.{TimedPacket}
use Rattle.line_gaps.specs.declared.line_gaps.LineGaps.{LineGaps}
use Rattle.line_gaps.specs.declared.open_gap.EndedGap.{EndedGap}
use Rattle.line_gaps.specs.declared.open_gap.OpenGap.{OpenGap}
use Rattle.line_gaps.specs.declared.venue_gaps.VenueGaps.{VenueGaps}
use Rattle.line_gaps.specs.declared.venue_gaps.VenueSums.{VenueSums}
use Rattle.line_gaps.specs.Gaps.{any_has_come, brings_messages, brings_number, counts_with, far_on, has_begun, highest_on, highest_skipped, is_missing, known_number, passes}
use Rattle.line_gaps.specs.Missing.{FitsLost, KeptAll}
use Rattle.line_gaps.specs.OpenGaps.{closes_gaps, ended_on, gaps_ended, in_session, is_open_after, open_on}
use Rattle.line_gaps.specs.Runs.{count_below}
use Rattle.line_gaps.specs.Sums.{AreSumsOf}

-- how many numbers are missing, up to 2^64 - 1
abbrev pub missing_total : List TimedEvent → ℕ
missing_total events =
    min (count_below (is_missing events) (known_number events + 1)) 18446744073709551615

-- what neither A nor B brought: what is missing, what was given up after the first message of its
-- session came, and what recovery brought first
abbrev pub lost_by_both_of : VenueSums → ℕ → ℕ
lost_by_both_of sums missing =
    count_after (count_after (sums.given_up - sums.before_join) sums.recovered) missing

-- how many runs of numbers were dropped
abbrev pub runs_dropped : VenueGaps → ℕ
runs_dropped gaps =
    count_after
    (count_after (count_after gaps.lost.missing.dropped gaps.lost.given_up.dropped)
    (count_after gaps.a.passed.dropped gaps.b.passed.dropped))
    gaps.all.passed.dropped

-- Of each gap a number is missing, and packets of the line tell of its last.
pub record IsStanding (line : GapLine) (events : List TimedEvent) (gap : OpenGap) : Type 0 where
  pub is_open : is_open_after events gap ≡ true
  pub known : gap.run.last ≤ known_number events
  pub passed : gap.run.last ≤ highest_on line events

abbrev pub AreStanding : GapLine → List TimedEvent → List OpenGap → Type 0
AreStanding line events [] = Unit
AreStanding line events (gap ∷ gaps) = IsStanding line events gap × AreStanding line events gaps

-- a line after these events of a session
pub record FitsLine (line : GapLine) (events : List TimedEvent) (gaps : LineGaps) : Type 0 where
  pub line_is : gaps.line ≡ line
  pub begun : gaps.begun ≡ has_begun line events
  pub highest : gaps.highest ≡ highest_on line events
  pub «open» : gaps.«open».items ≡ open_on line events
  pub stand : AreStanding line events gaps.«open».items

-- A venue after these events of a session: as long as no run of numbers was dropped, just the gaps
-- are open that the definition has.
pub record FitsSession (events : List TimedEvent) (gaps : VenueGaps) : Type 0 where
  pub lost : FitsLost events gaps.lost
  pub a : KeptAll gaps.lost → FitsLine lines.A events gaps.a
  pub b : KeptAll gaps.lost → FitsLine lines.B events gaps.b
  pub all : KeptAll gaps.lost → FitsLine lines.All events gaps.all
  pub far : (line : LineId) → on_line line gaps.far ≡ far_on line events
  pub come : gaps.has_come ≡ any_has_come events

-- A venue after these events of all its sessions.
abbrev pub FitsGaps : List TimedEvent → VenueGaps → Type 0
FitsGaps events gaps = FitsSession (in_session events) gaps

-- Of this many venues nothing came.
pub record AreNewGaps (count : ℕ) (venues : List VenueGaps) : Type 0 where
  pub count_is : length venues ≡ count
  pub fit : AllByRecursion (FitsGaps []) venues

-- The same, but for the packets past the window: these are as after one event more.
pub record FitsBut (earlier : List TimedEvent) (last : TimedEvent) (gaps : VenueGaps)
    : Type 0 where
  pub lost : FitsLost earlier gaps.lost
  pub a : KeptAll gaps.lost → FitsLine lines.A earlier gaps.a
  pub b : KeptAll gaps.lost → FitsLine lines.B earlier gaps.b
  pub all : KeptAll gaps.lost → FitsLine lines.All earlier gaps.all
  pub far : (line : LineId) → on_line line gaps.far ≡ far_on line (last ∷ earlier)
  pub come : gaps.has_come ≡ any_has_come earlier

-- the event of a packet that was answered so
abbrev pub packet_event : TimedPacket → ℕ → ℕ → Result Outcome LineFault → TimedEvent
packet_event packet venue bytes answer =
    timed_event packet.time
    (told_packet venue packet.line packet.number packet.count bytes answer)

-- With an event a packet counts.
pub record IsHeard (earlier : List TimedEvent) (last : TimedEvent) (packet : TimedPacket)
    : Type 0 where
  pub counts : counts_with earlier last.time last.event ≡ Some packet
  pub goes_on : closes_gaps last.event ≡ false
  pub skips_none : (begun : Bool) (highest : ℕ)
      → highest_skipped begun highest last.event ≡ highest

-- With an event no packet counts, and no number came or was given up.
pub record SaysNothing (earlier : List TimedEvent) (last : TimedEvent) : Type 0 where
  pub counts : counts_with earlier last.time last.event ≡ None
  pub brings_none : (n : ℕ) → brings_number n last.event ≡ false
  pub has_no_messages : brings_messages last.event ≡ false
  pub passes_none : (n : ℕ) → passes n last.event ≡ false
  pub skips_none : (begun : Bool) (highest : ℕ)
      → highest_skipped begun highest last.event ≡ highest

-- The last event ended just these gaps, and the sums of each line are those of its gaps, too.
pub record EndsJust (earlier : List TimedEvent) (last : TimedEvent) (old new : VenueGaps)
    (before after : List EndedGap) : Type 0 where
  pub are : after ≡ before ++ gaps_ended earlier last
  pub sums_a : (rows : List EndedGap) → AreSumsOf rows old.a.sums
      → AreSumsOf (rows ++ ended_on lines.A earlier last) new.a.sums
  pub sums_b : (rows : List EndedGap) → AreSumsOf rows old.b.sums
      → AreSumsOf (rows ++ ended_on lines.B earlier last) new.b.sums
  pub sums_all : (rows : List EndedGap) → AreSumsOf rows old.all.sums
      → AreSumsOf (rows ++ ended_on lines.All earlier last) new.all.sums

-- A venue took an event more of a session.
pub record StepsOn (earlier : List TimedEvent) (last : TimedEvent) (old new : VenueGaps)
    (before after : List EndedGap) : Type 0 where
  pub fits : FitsSession (last ∷ earlier) new
  pub ends : KeptAll new.lost → EndsJust earlier last old new before after

-- A venue took an event more: it fits all its events, and ended just the gaps that this one ends.
pub record TakesTimed (earlier : List TimedEvent) (last : TimedEvent) (old new : VenueGaps)
    (ended : List EndedGap) : Type 0 where
  pub fits : FitsGaps (last ∷ earlier) new
  pub ends : KeptAll new.lost → EndsJust (in_session earlier) last old new [] ended
