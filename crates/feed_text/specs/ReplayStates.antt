-- What a replay keeps of all venues together: its journal, the time of the record at hand, and its
-- sink. Cited by private clauses alone.
use Rattle.std.specs.Prelude.{◌≡◌, ℕ, ◌<◌, ◌≤◌, List, [], ◌∷◌, ◌++◌, length, Option, Result, Ok, Err}
use Rattle.feed_types.specs.declared.journal.Entry.{Entry}
use Rattle.feed_text.specs.declared.replay_sink.ReplaySink.{ReplaySink}
use Rattle.feed_text.specs.declared.replay_sink.PublishStop.{PublishStop}
use Rattle.feed_text.specs.declared.replay_sink.PublishStop.TheVariants.{JournalFull, SinkFailed}
use Rattle.feed_text.specs.ReplayEvents.{ReplayEvent, entries_after, entries_of}
use Rattle.event_sinks.specs.SinkEvents.{SinkEvent, TimedEvent, at_time}
use Rattle.feed_text.specs.Tellings.{own_told, told_of}

-- How sinks of a type go on: they take these events, or fail within them. These are members of the
-- trait EventSink.
pub record SinkTaking (K : Type 0) : Type 1 where
  pub takes : K → List TimedEvent → K → Type 0
  pub fails : K → List TimedEvent → K → Type 0

-- the symbols, the number of venues, the capacity of the journal, its entries, the time of the
-- record at hand, and the sink
pub record ReplayState (K : Type 0) : Type 0 where
  pub symbols : List (List ℕ)
  pub venues : ℕ
  pub journal : ℕ
  pub entries : List Entry
  pub time : Option ℕ
  pub sink : K

abbrev pub state_of_replay : {K : Type 0} → ReplaySink K → ReplayState K
state_of_replay output = record {
  symbols = output.journal.symbols;
  venues = output.journal.venues;
  journal = output.journal.journal;
  entries = output.journal.entries;
  time = output.time;
  sink = output.sink;
}

-- what a sink is told of these events, from a state on
abbrev pub told_from : {K : Type 0} → ReplayState K → List ReplayEvent → List TimedEvent
told_from state emitted = at_time state.time (told_of state.symbols state.entries emitted)

abbrev pub IsWithinJournal : {K : Type 0} → ReplayState K → Type 0
IsWithinJournal state = length state.entries ≤ state.journal

-- The state goes on with these events.
pub record GoesOn {K : Type 0} (taking : SinkTaking K) (old : ReplayState K)
    (emitted : List ReplayEvent) (new : ReplayState K) : Type 0 where
  pub symbols : new.symbols ≡ old.symbols
  pub venues : new.venues ≡ old.venues
  pub journal : new.journal ≡ old.journal
  pub time : new.time ≡ old.time
  pub entries : new.entries ≡ entries_of old.entries emitted
  pub took : taking.takes old.sink (told_from old emitted) new.sink
  pub within : IsWithinJournal old → IsWithinJournal new

-- The state goes on with the first of these events, and the journal has no room for the next one.
pub record GoesToFull {K : Type 0} (taking : SinkTaking K) (old : ReplayState K)
    (emitted : List ReplayEvent) (new : ReplayState K) : Type 0 where
  pub first : List ReplayEvent
  pub next : ReplayEvent
  pub others : List ReplayEvent
  pub emitted_is : emitted ≡ first ++ next ∷ others
  pub goes : GoesOn taking old first new
  pub full : new.journal < length (entries_after new.entries next)

-- The sink failed within the first of these events, which have room in the journal.
pub record FailsWithin {K : Type 0} (taking : SinkTaking K) (old : ReplayState K)
    (emitted : List ReplayEvent) (new : ReplayState K) : Type 0 where
  pub first : List ReplayEvent
  pub others : List ReplayEvent
  pub emitted_is : emitted ≡ first ++ others
  pub within : IsWithinJournal old → length (entries_of old.entries first) ≤ old.journal
  pub failed : taking.fails old.sink (told_from old first) new.sink

-- The results of emitting these events, by the answer.
abbrev pub EmitsInto : {K : Type 0} → SinkTaking K → ReplayState K
    → List ReplayEvent → ReplayState K
    → Result (Unit {0}) PublishStop → Type 0
EmitsInto taking old emitted new (Ok done) = GoesOn taking old emitted new
EmitsInto taking old emitted new (Err JournalFull) = GoesToFull taking old emitted new
EmitsInto taking old emitted new (Err SinkFailed) = FailsWithin taking old emitted new

-- The results of giving the sink an event, as those of any event of the machine that is told so and
-- leaves the journal unchanged.
abbrev pub EmitsPlain : {K : Type 0} → SinkTaking K → ReplayState K → SinkEvent → ReplayState K
    → Result (Unit {0}) PublishStop → Type 0
EmitsPlain taking old event new done =
    (h : ReplayEvent) → entries_after old.entries h ≡ old.entries → own_told old.entries h ≡ event
    → EmitsInto taking old (h ∷ []) new done
