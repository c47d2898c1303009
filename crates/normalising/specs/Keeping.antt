-- What is kept of a run. Cited by private clauses alone.
use Rattle.std.specs.Prelude.{◌≡◌, ⊤, ℕ, ◌+◌, Bool, true, false, List, [], ◌∷◌, ◌++◌, length, Option, Some, None, Result, Ok, Err, slice_get}
use Rattle.feed_types.specs.declared.item.Numbered.{Numbered}
use Rattle.line_arbiter.specs.Histories.{names_of}
use Rattle.line_arbiter.specs.Packets.{Input}
use Rattle.line_arbiter.specs.Skips.{MaySkip}
use Rattle.event_sinks.specs.declared.venue_gap.VenueGap.{VenueGap}
use Rattle.capture_records.specs.Capture.{CaptureRecord}
use Rattle.capture_records.specs.Formats.{TimedRecord}
use Rattle.text_out.specs.Devices.{Writing, Wrote}
use Rattle.venue_normaliser.specs.Outputs.{IsPutOutFrom}
use Rattle.venue_normaliser.specs.States.{FitsOpened, NormaliserState}
use Rattle.item_packets.specs.Openings.{BeginsAt, IsOpening}
use Rattle.normalising.specs.Normalised.{GoesOnWithin, IsNewPoint, IsNewVenue, IsNormalisedNext, NormalisedHistory, NormalisedPoint, NormalisesAll, NormalisesAt, inputs_of, quoted_keys, time_after}
use Rattle.normalising.specs.Reported.{IsReportOfVenue}
use Rattle.normalising.specs.Texts.{begun_text}
use Rattle.normalising.specs.Writes.{PutsText}
use Rattle.event_sinks.specs.declared.replay_stop.ReplayStop.TheVariants.{SinkFailed}
use Rattle.normalising.specs.declared.normalise_stop.NormaliseStop.{NormaliseStop}
use Rattle.normalising.specs.declared.normalise_stop.NormaliseStop.TheVariants as ends
use Rattle.normalising.specs.Normalisations.{RefusesSnapshot}
use Rattle.normalising.specs.declared.begin_fault.BeginFault.{BeginFault}
use Rattle.normalising.specs.declared.begin_fault.BeginFault.TheVariants as begins
use Rattle.normalising.specs.declared.normalise_stop.NormaliseStop.TheVariants.{Fault, Replay}
use Rattle.normalising.specs.declared.normalised_feed.NormalisedFeed.{NormalisedFeed}
use Rattle.normalising.specs.declared.normalised_venue.NormalisedVenue.{NormalisedVenue}
use Rattle.normalising.specs.declared.normalised_venues.NormalisedVenues.{NormalisedVenues}
use Rattle.normalising.specs.declared.venue_report.VenueReport.{VenueReport}
use Rattle.normalising.specs.declared.venue_stop.VenueStop.{VenueStop}
use Rattle.normalising.specs.declared.venue_stop.VenueStop.TheVariants.{Book, Sink}

-- The normaliser of the venue at this place was given what the history has, and put that out; what
-- is ready is what its snapshot shows, where nothing else was given.
pub record FollowsVenue (feed : NormalisedFeed) (place : ℕ) (v : NormalisedVenue)
    (h : NormalisedHistory) : Type 0 where
  pub fits : FitsOpened v.normaliser h.opening (inputs_of h)
  pub opens : IsOpening h.opening
  pub begins : BeginsAt h.opening.number (inputs_of h)
  pub put_out : IsPutOutFrom (quoted_keys feed) h.opening (inputs_of h)
      (h.output ++ v.ready.items)
  pub venue : v.normaliser.lines.venue ≡ place
  pub session : v.normaliser.lines.session ≡ h.history.present.name
  pub sessions : v.normaliser.lines.sessions ≡ names_of h.history
  pub window : v.normaliser.lines.window ≡ feed.normaliser.window
  pub keys : v.normaliser.book.keys ≡ quoted_keys feed
  pub end_number : v.normaliser.end_number ≡ feed.normaliser.end_number

-- a venue to which nothing was given follows its history
pub record FollowsNew (feed : NormalisedFeed) (place : ℕ) (v : NormalisedVenue) : Type 0 where
  pub history : NormalisedHistory
  pub is_new : IsNewVenue feed place history
  pub follows : FollowsVenue feed place v history

-- what every call that gives nothing leaves as it is
pub record IsSameVenue (old new : NormalisedVenue) : Type 0 where
  pub normaliser : new.normaliser ≡ old.normaliser
  pub ready : new.ready.items ≡ old.ready.items

-- A venue took a record, follows the history after it, and its text is written, or waits to be.
pub record TookAtVenue {W : Type 0} (writing : Writing W) (feed : NormalisedFeed)
    (time place : ℕ) (r : CaptureRecord) (old : NormalisedHistory) (v : NormalisedVenue)
    (from to : W) (waited waits : List ℕ) : Type 0 where
  pub after : NormalisedHistory
  pub text : List ℕ
  pub normalises : NormalisesAt feed time r old [] text after
  pub puts : PutsText writing from to waited text waits
  pub follows : FollowsVenue feed place v after

-- The writer failed within what waited and the record's text.
pub record FailedAtVenue {W : Type 0} (writing : Writing W) (feed : NormalisedFeed) (time : ℕ)
    (r : CaptureRecord) (old : NormalisedHistory) (from to : W) (waited : List ℕ)
    : Type 0 where
  pub after : NormalisedHistory
  pub rest : List Numbered
  pub text : List ℕ
  pub normalises : NormalisesAt feed time r old rest text after
  pub wrote : Wrote writing.adds from (waited ++ text) to
  pub failed : writing.failures to ≡ writing.failures from + 1

-- a venue's record, by the answer
abbrev pub TakesAtVenue : {W A : Type 0} → Writing W → NormalisedFeed → (time place : ℕ)
    → CaptureRecord → NormalisedHistory → NormalisedVenue → W → W → List ℕ → List ℕ
    → Result A VenueStop → Type 0
TakesAtVenue writing feed time place r old v from to waited waits (Ok done) =
    TookAtVenue writing feed time place r old v from to waited waits
TakesAtVenue writing feed time place r old v from to waited waits (Err (Sink stop)) =
    FailedAtVenue writing feed time r old from to waited
TakesAtVenue writing feed time place r old v from to waited waits (Err (Book fault)) =
    (to ≡ from) × (waits ≡ waited)

-- By the answer a gap was given up by a skip to this number, or the normaliser is as it was.
abbrev pub SkippedWhere : List Input → (number : ℕ) → (old new : NormaliserState) → Bool → Type 0
SkippedWhere packets number old new true = MaySkip packets number × (new.has_given_up ≡ true)
SkippedWhere packets number old new false = new ≡ old

-- a gap that is noted, if there is one
abbrev pub gap_noted : Option VenueGap → List VenueGap
gap_noted None = []
gap_noted (Some gap) = gap ∷ []

-- whatever the venue follows, this is the report of that
abbrev pub ReportsVenue : NormalisedVenue → VenueReport → Type 0
ReportsVenue v report =
    (feed : NormalisedFeed) (place : ℕ) (h : NormalisedHistory) → FollowsVenue feed place v h
    → IsReportOfVenue feed place h report

-- each venue has its report
pub record ReportVenues (vs : List NormalisedVenue) (reports : List VenueReport) : Type 0 where
  pub count : length reports ≡ length vs
  pub each : (place : ℕ) (v : NormalisedVenue) (report : VenueReport)
      → slice_get vs place ≡ Some v → slice_get reports place ≡ Some report
      → ReportsVenue v report

-- each venue follows its history
pub record FollowHistories (feed : NormalisedFeed) (vs : List NormalisedVenue)
    (hs : List NormalisedHistory) : Type 0 where
  pub count : length vs ≡ length hs
  pub each : (place : ℕ) (v : NormalisedVenue) (h : NormalisedHistory)
      → slice_get vs place ≡ Some v → slice_get hs place ≡ Some h
      → FollowsVenue feed place v h

-- The venues of a run follow a point of it, before which the latest record came, or one with this
-- time after it.
pub record FollowsRun (run : NormalisedVenues) (time : Option ℕ) (at : NormalisedPoint)
    : Type 0 where
  pub venues : FollowHistories run.settings run.venues.items at.venues
  pub latest : run.latest ≡ time_after at.latest time
  pub form : run.output.page.form ≡ run.settings.form
  pub given_up : run.given_up.items ≡ at.given_up

-- these venues, to which nothing was given, follow these histories
pub record FollowNew (feed : NormalisedFeed) (vs : List NormalisedVenue) : Type 0 where
  pub histories : List NormalisedHistory
  pub follow : FollowHistories feed vs histories
  pub each : (place : ℕ) (h : NormalisedHistory) → slice_get histories place ≡ Some h
      → IsNewVenue feed place h

-- why a run isn't begun: a venue's snapshot doesn't begin its session
abbrev pub IsBeginFault : NormalisedFeed → BeginFault → Type 0
IsBeginFault feed (begins.Normaliser fault) = ⊤
IsBeginFault feed (begins.Snapshot venue fault) = RefusesSnapshot feed venue fault

-- why a run ends that isn't begun
abbrev pub stop_at_begin : {F : Type 0} → BeginFault → NormaliseStop F
stop_at_begin (begins.Normaliser fault) = Fault fault
stop_at_begin (begins.Snapshot venue fault) = ends.Snapshot venue fault

-- a run of which nothing was read
pub record IsNewRun (feed : NormalisedFeed) (run : NormalisedVenues) : Type 0 where
  pub settings : run.settings ≡ feed
  pub at : NormalisedPoint
  pub is_new : IsNewPoint feed at
  pub follows : FollowsRun run None at
  pub waits : run.output.page.page ≡ begun_text feed.form

-- what every call leaves as it is
pub record IsSameRun (old new : NormalisedVenues) : Type 0 where
  pub settings : new.settings ≡ old.settings
  pub count : length new.venues.items ≡ length old.venues.items

-- what a note changes nothing of
pub record IsNoted (old new : NormalisedVenues) : Type 0 where
  pub same : IsSameRun old new
  pub latest : new.latest ≡ old.latest
  pub output : new.output ≡ old.output
  pub follows : (time : Option ℕ) (at : NormalisedPoint) → FollowsRun old time at
      → FollowsRun new time at

-- the run follows a point, whose latest time is its own
abbrev pub FollowsAt : NormalisedVenues → Option ℕ → NormalisedPoint → Type 0
FollowsAt run time at = FollowsRun run time at × (at.latest ≡ run.latest)

-- Some of these records were taken, and what they make is written, or waits to be.
pub record TookOf {W : Type 0} (writing : Writing W) (feed : NormalisedFeed)
    (records : List TimedRecord) (old : NormalisedPoint) (IsLeft : List TimedRecord → Type 0)
    (IsAfter : NormalisedPoint → Type 0) (from to : W) (waited waits : List ℕ) : Type 0 where
  pub taken : List TimedRecord
  pub text : List ℕ
  pub left : List TimedRecord
  pub after : NormalisedPoint
  pub normalises : NormalisesAll feed records old taken text left after
  pub is_left : IsLeft left
  pub is_after : IsAfter after
  pub puts : PutsText writing from to waited text waits

-- The writer failed within what waited and what some of these records make.
pub record FailedWithin {W : Type 0} (writing : Writing W) (feed : NormalisedFeed)
    (records : List TimedRecord) (old : NormalisedPoint) (from to : W) (waited : List ℕ)
    : Type 0 where
  pub taken : List TimedRecord
  pub text : List ℕ
  pub left : List TimedRecord
  pub after : NormalisedPoint
  pub normalises : NormalisesAll feed records old taken text left after
  pub more : List ℕ
  pub within : GoesOnWithin feed after left more
  pub wrote : Wrote writing.adds from (waited ++ (text ++ more)) to
  pub failed : writing.failures to ≡ writing.failures from + 1

-- What a call takes of these records, by its answer.
abbrev pub RunsOn : {W A : Type 0} → Writing W → NormalisedFeed → List TimedRecord
    → NormalisedPoint → (List TimedRecord → Type 0) → (NormalisedPoint → Type 0) → W → W
    → List ℕ → List ℕ → Result A VenueStop → Type 0
RunsOn writing feed records old IsLeft IsAfter from to waited waits (Ok done) =
    TookOf writing feed records old IsLeft IsAfter from to waited waits
RunsOn writing feed records old IsLeft IsAfter from to waited waits (Err (Sink stop)) =
    FailedWithin writing feed records old from to waited
RunsOn writing feed records old IsLeft IsAfter from to waited waits (Err (Book fault)) =
    TookOf writing feed records old (λ left. ⊤) (λ after. ⊤) from to waited waits

-- The run takes this record, whichever is the next one that it takes of some records.
abbrev pub GivesNext : {W A : Type 0} → Writing W → CaptureRecord → NormalisedVenues
    → NormalisedVenues → W → W → Result A VenueStop → Type 0
GivesNext writing r old new from to result =
    (t : TimedRecord) (records left : List TimedRecord) (at : NormalisedPoint)
    → FollowsRun old t.time at → t.what ≡ r → IsNormalisedNext old.settings records t left
    → RunsOn writing old.settings records at (λ l. l ≡ left) (FollowsAt new t.time) from to
    old.output.page.page new.output.page.page result

-- The run takes what is put in before a record, and not yet that.
abbrev pub PutsInFirst : {W A : Type 0} → Writing W → TimedRecord → NormalisedVenues
    → NormalisedVenues → W → W → Result A VenueStop → Type 0
PutsInFirst writing r old new from to result =
    (at : NormalisedPoint) → FollowsRun old r.time at
    → RunsOn writing old.settings (r ∷ []) at (λ l. l ≡ r ∷ []) (FollowsRun new r.time) from to
    old.output.page.page new.output.page.page result

-- The run takes a record, after what is put in before it.
abbrev pub TakesToo : {W A : Type 0} → Writing W → TimedRecord → NormalisedVenues
    → NormalisedVenues → W → W → Result A VenueStop → Type 0
TakesToo writing r old new from to result =
    (at : NormalisedPoint) → FollowsRun old r.time at
    → RunsOn writing old.settings (r ∷ []) at (λ l. l ≡ []) (FollowsAt new r.time) from to
    old.output.page.page new.output.page.page result

-- Why a run ends, where a venue takes no more: the writer failed, then or at what waited, of which
-- it took all where the book is the reason.
abbrev pub EndsRun : {W F : Type 0} → Writing W → (waited : List ℕ) → W → W → VenueStop
    → NormaliseStop F → Type 0
EndsRun writing waited from to (Sink stop) result = (result ≡ Replay SinkFailed) × (to ≡ from)
EndsRun writing waited from to (Book fault) (ends.Book venue why) =
    writing.adds from waited to × (why ≡ fault)
EndsRun writing waited from to (Book fault) result =
    (result ≡ Replay SinkFailed) × Wrote writing.adds from waited to
    × (writing.failures to ≡ writing.failures from + 1)
