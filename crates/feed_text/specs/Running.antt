-- What is known while a replay runs. Cited by private clauses alone.
use Rattle.std.specs.Prelude.{◌≡◌, ◌⊎◌, ℕ, ◌+◌, ◌≤◌, List, [], ◌∷◌, length, map, None, Result, Ok, Err}
use Rattle.journal_book.specs.NumberedBooks.{NumberedState, new_numbered}
use Rattle.line_arbiter.specs.Histories.{History}
use Rattle.feed_text.specs.declared.replay.ReplayConfig.{ReplayConfig}
use Rattle.event_sinks.specs.declared.replay_stop.ReplayStop.{ReplayStop}
use Rattle.event_sinks.specs.declared.replay_stop.ReplayStop.TheVariants.{JournalFull, SinkFailed}
use Rattle.feed_text.specs.declared.replay_sink.PublishStop.{PublishStop}
use Rattle.feed_text.specs.declared.replay_sink.PublishStop.TheVariants as stops
use Rattle.feed_text.specs.declared.standing_gaps.StandingGaps.{StandingGaps}
use Rattle.capture_records.specs.Capture.{CaptureRecord}
use Rattle.text_out.specs.Devices.{Reading}
use Rattle.feed_text.specs.Emitted.{EmitsRecord, Emits}
use Rattle.feed_text.specs.EventReplays.{AnswersRun, venues_in}
use Rattle.feed_text.specs.Following.{ReplayVenue, VenueList, FollowAll}
use Rattle.capture_records.specs.Formats.{TimedRecord, Parsing, HasReadRecords, what_of}
use Rattle.feed_text.specs.ReplayEvents.{ReplayEvent}
use Rattle.feed_text.specs.ReplayStates.{SinkTaking, ReplayState, EmitsInto, GoesOn}
use Rattle.feed_text.specs.Rules.{AreTakenOf, IsTakenNext, PutsIn, ReplayPoint}
use Rattle.event_sinks.specs.SinkEvents.{TimedEvent, at_time}
use Rattle.feed_text.specs.Standings.{Awaits, Knows}
use Rattle.feed_text.specs.Tellings.{lasts_told}
use Rattle.feed_text.specs.Texts.{new_histories}
use Rattle.feed_text.specs.Told.{IsToldUpTo, told_facts}

-- The venues stay as many, and gap lines are asked for as before.
pub record KeepsVenues (from to : VenueList) : Type 0 where
  pub gaps : to.gaps ≡ from.gaps
  pub count : length to.items ≡ length from.items

-- the venues follow some histories, and the gaps that stand are known
abbrev pub FollowSome : ReplayConfig → VenueList → StandingGaps → Type 0
FollowSome config venues kept =
    (at : ReplayPoint) × FollowAll config.window venues.items at.histories × Knows config kept at

-- These were taken of a record that was read last, what is put in before it or that and itself, and
-- their events were emitted.
pub record TookSome {K : Type 0} (taking : SinkTaking K) (config : ReplayConfig)
    (read left : List TimedRecord) (at : ReplayPoint) (old new : ReplayState K)
    (after : ReplayPoint) : Type 0 where
  pub taken : List TimedRecord
  pub emitted : List ReplayEvent
  pub are : AreTakenOf config read at taken left after
  pub emits : Emits config.window config.gaps (map what_of taken) at.histories emitted
      after.histories
  pub goes : GoesOn taking old emitted new

-- A record was taken, after what is put in before it, the venues follow the histories after it, and
-- the gaps that stand are known.
pub record TookNext {K : Type 0} (taking : SinkTaking K) (config : ReplayConfig)
    (r : TimedRecord) (at : ReplayPoint) (old new : ReplayState K) (vs : List ReplayVenue)
    (kept : StandingGaps) : Type 0 where
  pub after : ReplayPoint
  pub took : TookSome taking config (r ∷ []) [] at old new after
  pub follow : FollowAll config.window vs after.histories
  pub knows : Knows config kept after

-- What is put in before a record was taken, and the venues follow the histories after it: nothing
-- is put in any more.
pub record TookPutIn {K : Type 0} (taking : SinkTaking K) (config : ReplayConfig)
    (r : TimedRecord) (at : ReplayPoint) (old new : ReplayState K) (vs : List ReplayVenue)
    (kept : StandingGaps) : Type 0 where
  pub after : ReplayPoint
  pub took : TookSome taking config (r ∷ []) (r ∷ []) at old new after
  pub follow : FollowAll config.window vs after.histories
  pub awaits : Awaits config kept r after
  pub none : (put_in : CaptureRecord) → PutsIn config after r put_in → ⊥

-- A stop came within a record, or within one that is put in before it.
pub record StoppedAt {K : Type 0} (taking : SinkTaking K) (config : ReplayConfig)
    (r : TimedRecord) (at : ReplayPoint) (old new : ReplayState K) (stop : PublishStop)
    : Type 0 where
  pub mid : ReplayPoint
  pub state : ReplayState K
  pub took : TookSome taking config (r ∷ []) (r ∷ []) at old state mid
  pub last : TimedRecord
  pub left : List TimedRecord
  pub is_last : IsTakenNext config mid (r ∷ []) last left
  pub emitted : List ReplayEvent
  pub after : List History
  pub last_tells : EmitsRecord config.window config.gaps last.what mid.histories emitted after
  pub stopped : EmitsInto taking state emitted new (Err stop)

-- A record and what is put in before it, by the answer; or what is put in alone.
abbrev pub TakesNext : {K : Type 0} → SinkTaking K → ReplayConfig → TimedRecord → ReplayPoint
    → ReplayState K → ReplayState K → List ReplayVenue → StandingGaps
    → Result (Unit {0}) PublishStop → Type 0
TakesNext taking config r at old new vs kept (Ok done) =
    TookNext taking config r at old new vs kept
TakesNext taking config r at old new vs kept (Err stop) =
    StoppedAt taking config r at old new stop

abbrev pub TakesPutIn : {K : Type 0} → SinkTaking K → ReplayConfig → TimedRecord → ReplayPoint
    → ReplayState K → ReplayState K → List ReplayVenue → StandingGaps
    → Result (Unit {0}) PublishStop → Type 0
TakesPutIn taking config r at old new vs kept (Ok done) =
    TookPutIn taking config r at old new vs kept
TakesPutIn taking config r at old new vs kept (Err stop) =
    StoppedAt taking config r at old new stop

-- Nothing came yet.
pub record IsReplayStart (config : ReplayConfig) (held : List ℕ) (at : VenueList)
    (journal : NumberedState) : Type 0 where
  pub unread : held ≡ []
  pub follow : FollowAll config.window at.items (new_histories config)
  pub gaps : at.gaps ≡ config.gaps
  pub journal_is : journal ≡ new_numbered config.symbols.now (venues_in config) config.journal

-- The sink showed what it took, and the stop is this one; or it failed.
abbrev pub ShowsBefore : {F K : Type 0} → (K → List TimedEvent → K → Type 0)
    → (K → List TimedEvent → K → Type 0) → (K → Type 0) → ReplayStop F → K → K → ReplayStop F
    → Type 0
ShowsBefore takes fails is_shown stop before after result =
    ((result ≡ stop) × takes before [] after × is_shown after)
    ⊎ ((result ≡ SinkFailed) × fails before [] after)

-- The same for a full journal; where the sink failed it is left as it is.
abbrev pub StopsShown : {F K : Type 0} → (K → List TimedEvent → K → Type 0)
    → (K → List TimedEvent → K → Type 0) → (K → Type 0) → PublishStop → K → K → ReplayStop F
    → Type 0
StopsShown takes fails is_shown stops.JournalFull before after result =
    ShowsBefore takes fails is_shown JournalFull before after result
StopsShown takes fails is_shown stops.SinkFailed before after result =
    (result ≡ SinkFailed) × (after ≡ before)

-- The sink took the venues' last events, whatever histories the venues follow, and shows all; or it
-- failed within them.
abbrev pub ClosesSink : {F K : Type 0} → (K → List TimedEvent → K → Type 0)
    → (K → List TimedEvent → K → Type 0) → (K → Type 0) → VenueList → K → K
    → Result (Unit {0}) (ReplayStop F) → Type 0
ClosesSink takes fails is_shown at before after (Ok done) =
    ((window : ℕ) (hs : List History) → FollowAll window at.items hs
    → takes before (at_time None (lasts_told 0 hs)) after)
    × is_shown after
ClosesSink takes fails is_shown at before after (Err SinkFailed) =
    (window : ℕ) (hs : List History) → FollowAll window at.items hs
    → fails before (at_time None (lasts_told 0 hs)) after
ClosesSink takes fails is_shown at before after _ = ⊥

-- A whole capture was read by fewer than `turns` calls, one more call showed the end, the sink took
-- what its records tell, and the venues follow the histories that they lead to.
pub record RanToEnd {R S F K : Type 0} (reading : Reading R) (parsing : Parsing S F)
    (taking : SinkTaking K) (config : ReplayConfig) (from to : R) (start finish : S)
    (before after : K) (vs : List ReplayVenue) : Type 0 where
  pub records : List TimedRecord
  pub calls : ℕ
  pub mid : R
  pub within : calls + 1 ≤ config.turns
  pub read : HasReadRecords reading parsing (venues_in config) from calls mid start records finish
      []
  pub is_whole : parsing.is_whole finish
  pub end : reading.ends mid to
  pub told : List TimedEvent
  pub is : IsToldUpTo config records [] told
  pub follow : FollowAll config.window vs is.histories
  pub count : length vs ≡ venues_in config
  pub took : taking.takes before told after

-- The results of reading a capture to its end, before the venues' last events.
abbrev pub RunsToEnd : {R S F K : Type 0} (reading : Reading R) (parsing : Parsing S F)
    (taking : SinkTaking K) (is_shown : K → Type 0) (config : ReplayConfig) (from to : R)
    (start finish : S) (before after : K) (vs : List ReplayVenue)
    → Result (Unit {0}) (ReplayStop F) → Type 0
RunsToEnd reading parsing taking is_shown config from to start finish before after vs (Ok done) =
    RanToEnd reading parsing taking config from to start finish before after vs
RunsToEnd reading parsing taking is_shown config from to start finish before after vs (Err stop) =
    AnswersRun reading parsing taking is_shown config (told_facts config) from to start finish
    before after (Err stop)
