-- What is watched of the datagrams of a capture, and what is said of it at the end.
use Rattle.std.specs.Prelude.{◌≡◌, ℕ, zero, suc, ◌==◌, Bool, true, false, ◌&&◌, ◌||◌, not, List, [], ◌∷◌, ◌++◌, codes, decimal, length, replicate, slice_index_or, slice_set, Result, Ok, Err}
use Rattle.std.specs.List.{list_any}
use Rattle.feed_types.specs.Text.{line_letter}
use Rattle.feed_types.specs.declared.line.LineId.{LineId}
use Rattle.feed_types.specs.declared.line.LineId.TheVariants.{A, B}
use Rattle.capture_records.specs.declared.record_format.Step.{Step}
use Rattle.capture_records.specs.declared.record_format.Step.TheVariants.{Came}
use Rattle.capture_records.specs.Capture.{CaptureRecord, datagram_record, record_of}
use Rattle.capture_records.specs.Formats.{Parsing, TimedRecord}
use Rattle.run_settings.specs.declared.captured_line.CapturedLine.{CapturedLine}
use Rattle.run_settings.specs.declared.next_session.NextSession.{NextSession}
use Rattle.run_settings.specs.declared.run_input.RunInput.{RunInput}
use Rattle.run_settings.specs.declared.run_input.RunInput.TheVariants.{Own, Packets}
use Rattle.message_forms.specs.declared.payload.Payload.{Payload}
use Rattle.message_forms.specs.declared.payload.Payload.TheVariants.{Neither}
use Rattle.nbbo_runs.specs.declared.venue_watch.VenueWatch.{VenueWatch}
use Rattle.nbbo_runs.specs.declared.watched_format.WatchedFormat.{WatchedFormat}
use Rattle.nbbo_runs.specs.Sessions.{named_sightings, session_rows, sessions_texts, sightings_of}
use Rattle.nbbo_runs.specs.VenueLooks.{SeesLooks, look_at, look_texts}

-- ---- what is watched

abbrev pub unwatched : VenueWatch
unwatched = record { a = false; b = false }

-- a datagram of the venue came on a line
abbrev pub heard_on : VenueWatch → LineId → VenueWatch
heard_on w A = record w { a = true }
heard_on w B = record w { b = true }
heard_on w line = w

-- the watches of the venues after a record
abbrev pub watched_with : List VenueWatch → CaptureRecord → List VenueWatch
watched_with ws (datagram_record venue line bytes) =
    slice_set ws venue (heard_on (slice_index_or ws venue unwatched) line)
watched_with ws _ = ws

abbrev pub watched_after : List VenueWatch → List TimedRecord → List VenueWatch
watched_after ws [] = ws
watched_after ws (r ∷ rs) = watched_after (watched_with ws r.what) rs

-- after a step
abbrev pub watched_by : {F : Type 0} → List VenueWatch → Step F → List VenueWatch
watched_by ws (Came len time r) = watched_with ws (record_of r)
watched_by ws _ = ws

-- ---- a format that is watched

-- what is said at the end is of these lines, messages and sessions
abbrev pub WatchedReads : {S : Type 0} (reads : S → List ℕ → List TimedRecord → S → List ℕ → Type 0)
    → WatchedFormat S → List ℕ → List TimedRecord → WatchedFormat S → List ℕ → Type 0
WatchedReads reads s xs rs t ys =
    reads s.format xs rs t.format ys × (t.venues ≡ watched_after s.venues rs)
    × SeesLooks s.looks rs t.looks
    × (t.seen ≡ s.seen ++ sightings_of s.sessions.now rs) × (t.sessions ≡ s.sessions)
    × (t.next ≡ s.next) × (t.input ≡ s.input)

abbrev pub watching : {S F : Type 0} → Parsing S F → Parsing (WatchedFormat S) F
watching parsing = record {
  reads = WatchedReads parsing.reads;
  wants = λ s. parsing.wants s.format;
  is_bad = λ s. parsing.is_bad s.format;
  is_whole = λ s. parsing.is_whole s.format;
}

-- nothing was read of the format of an input, whose venues' first sessions have these names, and
-- whose next ones are named
pub record IsWatched {S : Type 0} (format : S) (input : RunInput) (sessions : List (List ℕ))
    (next : List NextSession) (w : WatchedFormat S) : Type 0 where
  pub format_is : w.format ≡ format
  pub venues_are : w.venues ≡ replicate 16 unwatched
  pub looks_are : w.looks ≡ replicate 16 Neither
  pub seen_is : w.seen ≡ named_sightings next
  pub sessions_are : w.sessions.now ≡ sessions
  pub next_are : w.next.now ≡ next
  pub input_is : w.input.now ≡ input

-- ---- what is said

abbrev pub silent_texts : ℕ → List ℕ → Bool → List (List ℕ)
silent_texts venue line true = []
silent_texts venue line false =
    codes "nbbo: venue " ∷ decimal venue ∷ codes " line " ∷ line ∷ codes " had no datagram\n" ∷ []

abbrev pub is_line : ℕ → LineId → CapturedLine → Bool
is_line venue line l = (l.venue == venue) && (line_letter l.line == line_letter line)

-- whether a packet capture is to have a line of the venue; a capture of the project's own format
-- has each
abbrev pub is_given : RunInput → ℕ → LineId → Bool
is_given Own venue line = true
is_given (Packets lines) venue line = list_any (is_line venue line) lines.items

-- of the venue's lines that are given
abbrev pub silent_lines_texts : RunInput → ℕ → VenueWatch → List (List ℕ)
silent_lines_texts input venue w =
    silent_texts venue (codes "A") (w.a || not (is_given input venue A))
    ++ silent_texts venue (codes "B") (w.b || not (is_given input venue B))

-- and of its messages
abbrev pub venue_texts : RunInput → ℕ → VenueWatch → Payload → List (List ℕ)
venue_texts input venue w look = silent_lines_texts input venue w ++ look_texts venue look

-- of the first venues, this many
abbrev pub first_venues_texts : RunInput → List VenueWatch → List Payload → ℕ → List (List ℕ)
first_venues_texts input ws looks zero = []
first_venues_texts input ws looks (suc n) =
    first_venues_texts input ws looks n
    ++ venue_texts input n (slice_index_or ws n unwatched) (look_at looks n)

-- of the venues' lines and messages, and then of sessions, where the venues' last ones have these
-- ordinals
abbrev pub seen_texts : {S : Type 0} → WatchedFormat S → (ordinals : List ℕ) → List (List ℕ)
seen_texts s ordinals =
    first_venues_texts s.input.now s.venues s.looks (length s.sessions.now)
    ++ sessions_texts s.next.now ordinals (session_rows s.seen)

-- after a run that came to its end
abbrev pub watch_texts : {S F : Type 0} → Result (Unit {0}) F → WatchedFormat S
    → (ordinals : List ℕ) → List (List ℕ)
watch_texts (Ok done) s ordinals = seen_texts s ordinals
watch_texts (Err stop) s ordinals = []

-- before what is said of the format
abbrev pub watched_texts : {S F : Type 0} → (S → List ℕ → Result (Unit {0}) F → List (List ℕ))
    → WatchedFormat S → (ordinals : List ℕ) → Result (Unit {0}) F → List (List ℕ)
watched_texts texts s ordinals outcome =
    watch_texts outcome s ordinals ++ texts s.format ordinals outcome
