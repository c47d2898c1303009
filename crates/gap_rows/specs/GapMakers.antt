-- What a maker of rows of gaps makes of events.
use Rattle.std.specs.Prelude.{◌≡◌, ℕ, List, [], ◌∷◌, ◌++◌, length, nat_lt, Option, None, Some, if◌then◌else◌, slice_get, slice_set}
use Rattle.run_settings.specs.declared.formats.RowFormat.{RowFormat}
use Rattle.event_sinks.specs.SinkEvents.{SinkEvent, TimedEvent, told_before, told_last, told_packet, told_renewal, told_skip, timed_event}
use Rattle.line_gaps.specs.declared.ended_gaps.EndedGaps.{EndedGaps}
use Rattle.line_gaps.specs.declared.open_gap.EndedGap.{EndedGap}
use Rattle.line_gaps.specs.declared.venue_gaps.VenueGaps.{VenueGaps}
use Rattle.line_gaps.specs.Ends.{EndsVenue}
use Rattle.line_gaps.specs.VenueFits.{FitsGaps, TakesTimed}
use Rattle.gap_rows.specs.declared.gap_maker.GapMaker.{GapMaker}
use Rattle.gap_rows.specs.GapCells.{gap_rows_text}

-- the venue of an event in which gaps have a part
abbrev pub venue_in : SinkEvent → Option ℕ
venue_in (told_packet venue line number count bytes answer) = Some venue
venue_in (told_renewal venue answer) = Some venue
venue_in (told_skip venue number answer) = Some venue
venue_in (told_last venue sent a b recovery) = Some venue
venue_in (told_before event) = venue_in event
venue_in event = None

-- the venue whose rows it has: before all that is told, none
abbrev pub shown_in : SinkEvent → Option ℕ
shown_in (told_before event) = None
shown_in event = venue_in event

-- the venue, if it is one of the first `count`
abbrev pub one_of : ℕ → Option ℕ → Option ℕ
one_of count None = None
one_of count (Some venue) = if nat_lt venue count then Some venue else None

-- an event, also one that came before all that is told
abbrev pub said_by : SinkEvent → SinkEvent
said_by (told_before event) = said_by event
said_by event = event

abbrev pub said_at : TimedEvent → TimedEvent
said_at e = timed_event e.time (said_by e.event)

-- The venue at this place took an event and ended just these gaps: of any events that it fits, and
-- this one, the gaps that this one ends (`TakesTimed`). All others stay.
pub record EndsAt (e : TimedEvent) (place : ℕ) (old new : List VenueGaps) (gaps : List EndedGap)
    : Type 0 where
  pub before : VenueGaps
  pub after : VenueGaps
  pub was : slice_get old place ≡ Some before
  pub is : new ≡ slice_set old place after
  pub none : EndedGaps
  pub ended : EndedGaps
  pub none_are : none.gaps.items ≡ []
  pub gaps_are : gaps ≡ ended.gaps.items
  pub ends : EndsVenue before after none ended
  pub takes : (earlier : List TimedEvent) → FitsGaps earlier before
      → TakesTimed earlier (said_at e) before after gaps

pub record StaysAt (old new : List VenueGaps) (gaps : List EndedGap) : Type 0 where
  pub same : new ≡ old
  pub none : gaps ≡ []

-- Where there is no venue, all stay.
abbrev pub EndsIn : TimedEvent → Option ℕ → List VenueGaps → List VenueGaps → List EndedGap
    → Type 0
EndsIn e None old new gaps = StaysAt old new gaps
EndsIn e (Some venue) old new gaps = EndsAt e venue old new gaps

-- the rows of gaps of a venue
abbrev pub rows_in : RowFormat → Option ℕ → List EndedGap → List ℕ
rows_in format None gaps = []
rows_in format (Some venue) gaps = gap_rows_text format venue gaps

-- The venue of an event ended gaps with it, and the text is the rows of just these.
pub record TakesGaps (format : RowFormat) (e : TimedEvent) (old : List VenueGaps)
    (text : List ℕ) (new : List VenueGaps) : Type 0 where
  pub gaps : List EndedGap
  pub ends : EndsIn e (one_of (length old) (venue_in e.event)) old new gaps
  pub text_is : text ≡ rows_in format (shown_in e.event) gaps

-- One event is taken, then others.
pub record ThenTakes (one next : List VenueGaps → List ℕ → List VenueGaps → Type 0)
    (old : List VenueGaps) (text : List ℕ) (new : List VenueGaps) : Type 0 where
  pub mid : List VenueGaps
  pub first : List ℕ
  pub rest : List ℕ
  pub takes : one old first mid
  pub follow : next mid rest new
  pub text_is : text ≡ first ++ rest

pub record TakesNone (old : List VenueGaps) (text : List ℕ) (new : List VenueGaps) : Type 0 where
  pub none : text ≡ []
  pub same : new ≡ old

-- Event after event is taken, and its text stands after that of those before.
abbrev pub TakesEach : RowFormat → List TimedEvent → List VenueGaps → List ℕ → List VenueGaps
    → Type 0
TakesEach format [] = TakesNone
TakesEach format (e ∷ events) = ThenTakes (TakesGaps format e) (TakesEach format events)

-- The text would be that of the events.
pub record TellsGaps (old : GapMaker) (events : List TimedEvent) (text : List ℕ) : Type 0 where
  pub venues : List VenueGaps
  pub takes : TakesEach old.format events old.venues.items text venues

pub record MakesGaps (old : GapMaker) (events : List TimedEvent) (text : List ℕ) (new : GapMaker)
    : Type 0 where
  pub takes : TakesEach old.format events old.venues.items text new.venues.items
  pub format : new.format ≡ old.format
