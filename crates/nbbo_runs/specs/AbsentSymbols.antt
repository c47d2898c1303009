-- The symbols of which no item comes in a replay, and what is said of them at the end; and how far
-- the venues' sessions come.
use Rattle.std.specs.Prelude.{◌≡◌, ⊤, ℕ, Bool, true, false, ◌&&◌, not, List, [], filter, Result, Ok}
use Rattle.std.specs.List.{list_any}
use Rattle.feed_types.specs.Symbols.{key_of}
use Rattle.feed_text.specs.declared.replay.ReplayConfig.{ReplayConfig}
use Rattle.event_sinks.specs.declared.replay_stop.ReplayStop.{ReplayStop}
use Rattle.text_out.specs.Devices.{Reading}
use Rattle.feed_text.specs.EventReplays.{AnswersRun}
use Rattle.capture_records.specs.Formats.{Parsing}
use Rattle.event_sinks.specs.SinkEvents.{SinkEvent, TimedEvent, told_item}
use Rattle.replay_run.specs.Printed.{facts_of_run}
use Rattle.run_notes.specs.AbsentSymbols.{absent_texts, has_key, is_item_of}
use Rattle.nbbo_runs.specs.declared.watched_sink.Missing.{Missing}
use Rattle.nbbo_runs.specs.declared.watched_sink.WatchedSink.{WatchedSink}
use Rattle.nbbo_runs.specs.Kept.{keeping}
use Rattle.nbbo_runs.specs.NamedSessions.{first_ordinals, ordinals_after}

-- ---- which symbols come

abbrev pub brings_item : ℕ → SinkEvent → Bool
brings_item key (told_item venue numbered) = is_item_of key numbered.item
brings_item key _ = false

-- whether an item of the symbol of this key is among the events
abbrev pub comes_in : List TimedEvent → ℕ → Bool
comes_in told key = list_any (λ e. brings_item key e.event) told

-- the symbols of which no item is among the events
abbrev pub absent_symbols : List TimedEvent → List (List ℕ) → List (List ℕ)
absent_symbols told symbols = filter (λ symbol. not (comes_in told (key_of symbol))) symbols

-- ---- what a replay shows of them

-- of the symbols of which nothing had come these are left after the events
abbrev pub IsAfterItems : List ℕ → List TimedEvent → List ℕ → Type 0
IsAfterItems before told after =
    (key : ℕ) → has_key after key ≡ (has_key before key && not (comes_in told key))

-- a sink took the events, and the symbols that they brought were noted, and the sessions that began
abbrev pub TakesWatched : {K : Type 0} → (K → List TimedEvent → K → Type 0)
    → WatchedSink K → List TimedEvent → WatchedSink K → Type 0
TakesWatched takes before told after =
    takes before.sink told after.sink × IsAfterItems before.absent told after.absent
    × (after.ordinals ≡ ordinals_after before.ordinals told)

-- A whole capture was replayed; where that is watched these are the symbols of which no item came,
-- and these are the ordinals of the venues' last sessions.
pub record LeavesAbsent {R S F : Type 0} (reading : Reading R) (parsing : Parsing S F)
    (config : ReplayConfig) (from to : R) (start finish : S)
    (outcome : Result (Unit {0}) (ReplayStop F)) (is_watched : Bool) (absent : List (List ℕ))
    (ordinals : List ℕ) : Type 0 where
  pub told : List TimedEvent
  pub run : AnswersRun reading parsing keeping (λ kept. ⊤) config (facts_of_run config)
      from to start finish [] told outcome
  pub are : is_watched ≡ true → absent ≡ absent_symbols told config.symbols.now
  pub begun : ordinals ≡ ordinals_after first_ordinals told

-- nothing is missing yet, and symbols are watched or not
pub record IsNewMissing (is_watched : Bool) (missing : Missing) : Type 0 where
  pub watched : missing.is_watched ≡ is_watched
  pub gaps : missing.gaps.items ≡ []

-- ---- what is said

-- after a run that ended well, if that is told
abbrev pub told_absent : {F : Type 0} → Result (Unit {0}) F → Bool → List (List ℕ)
    → List (List ℕ)
told_absent (Ok done) true symbols = absent_texts symbols
told_absent outcome is_told symbols = []
