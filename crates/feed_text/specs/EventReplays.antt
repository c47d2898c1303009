-- The results of a replay over a format and a sink.
use Rattle.std.specs.Prelude.{◌≡◌, ◌⊎◌, ⊤, ℕ, ◌+◌, ◌≤◌, List, [], length, Result, Ok, Err}
use Rattle.feed_text.specs.declared.replay.ReplayConfig.{ReplayConfig}
use Rattle.event_sinks.specs.declared.replay_stop.ReplayStop.{ReplayStop}
use Rattle.event_sinks.specs.declared.replay_stop.ReplayStop.TheVariants.{ReadFailed, SinkFailed, Bad, Short, TooManyTurns, JournalFull, NoMemory}
use Rattle.text_out.specs.Devices.{Reading}
use Rattle.capture_records.specs.Formats.{TimedRecord, Parsing, HasReadRecords, IsCutOff}
use Rattle.event_sinks.specs.SinkEvents.{TimedEvent}
use Rattle.feed_text.specs.ReplayStates.{SinkTaking}
use Rattle.feed_text.specs.Told.{ToldFacts}

-- the number of venues
abbrev pub venues_in : ReplayConfig → ℕ
venues_in config = length config.sessions.now

-- Some calls read records and then a rest of this kind; the reader came to its last state so; and
-- what the sink was told of the records, it took so.
pub record ReadAndTold {R S F : Type 0} (reading : Reading R) (parsing : Parsing S F) (venues : ℕ)
    (from : R) (start finish : S) (IsLeft : List ℕ → Type 0) (CameTo : ℕ → R → Type 0)
    (IsTold : List TimedRecord → List TimedEvent → Type 0) (Took : List TimedEvent → Type 0)
    : Type 0 where
  pub records : List TimedRecord
  pub calls : ℕ
  pub mid : R
  pub rest : List ℕ
  pub read : HasReadRecords reading parsing venues from calls mid start records finish rest
  pub left : IsLeft rest
  pub came_to : CameTo calls mid
  pub told : List TimedEvent
  pub is : IsTold records told
  pub took : Took told

-- the sink took all that it was told, and shows it
abbrev pub TookAll : {K : Type 0} → SinkTaking K → (K → Type 0) → K → K → List TimedEvent → Type 0
TookAll taking is_shown before after told = taking.takes before told after × is_shown after

-- What a sink that failed was told: of some records, or up to a full journal, or, where nothing is
-- left and one more call showed the end, of a whole capture.
abbrev pub IsToldPart : ToldFacts → List TimedRecord → List TimedEvent → Type 0
IsToldPart facts records told =
    facts.OfSome records told ⊎ facts.ToFull records told ⊎ facts.OfCapture records told

-- The results of a replay, by its answer, where `facts` says what its sink is told.
abbrev pub AnswersRun : {R S F K : Type 0} (reading : Reading R) (parsing : Parsing S F)
    (taking : SinkTaking K) (is_shown : K → Type 0) (config : ReplayConfig) (facts : ToldFacts)
    (from to : R) (start finish : S) (before after : K)
    → Result (Unit {0}) (ReplayStop F) → Type 0
AnswersRun reading parsing taking is_shown config facts from to start finish before after
    (Ok done) =
    ReadAndTold reading parsing (venues_in config) from start finish
    (λ rest. (rest ≡ []) × parsing.is_whole finish)
    (λ calls mid. (calls + 1 ≤ config.turns) × reading.ends mid to)
    facts.OfCapture (TookAll taking is_shown before after)
AnswersRun reading parsing taking is_shown config facts from to start finish before after
    (Err (Bad fault)) =
    ReadAndTold reading parsing (venues_in config) from start finish
    (λ rest. parsing.is_bad finish rest fault) (λ calls mid. mid ≡ to)
    facts.OfRecords (TookAll taking is_shown before after)
AnswersRun reading parsing taking is_shown config facts from to start finish before after
    (Err Short) =
    ReadAndTold reading parsing (venues_in config) from start finish
    (IsCutOff parsing finish) (λ calls mid. reading.ends mid to)
    facts.OfRecords (TookAll taking is_shown before after)
AnswersRun reading parsing taking is_shown config facts from to start finish before after
    (Err ReadFailed) =
    ReadAndTold reading parsing (venues_in config) from start finish
    (parsing.wants finish) (λ calls mid. reading.fails mid to)
    facts.OfRecords (TookAll taking is_shown before after)
    × (reading.failures to ≡ reading.failures from + 1)
AnswersRun reading parsing taking is_shown config facts from to start finish before after
    (Err TooManyTurns) =
    ReadAndTold reading parsing (venues_in config) from start finish
    (parsing.wants finish) (λ calls mid. (calls ≡ config.turns) × (mid ≡ to))
    facts.OfRecords (TookAll taking is_shown before after)
AnswersRun reading parsing taking is_shown config facts from to start finish before after
    (Err JournalFull) =
    ReadAndTold reading parsing (venues_in config) from start finish
    (λ rest. ⊤) (λ calls mid. mid ≡ to)
    facts.ToFull (TookAll taking is_shown before after)
AnswersRun reading parsing taking is_shown config facts from to start finish before after
    (Err SinkFailed) =
    ReadAndTold reading parsing (venues_in config) from start finish
    (λ rest. ⊤) (λ calls mid. (mid ≡ to) ⊎ reading.ends mid to)
    (IsToldPart facts) (λ told. taking.fails before told after)
AnswersRun reading parsing taking is_shown config facts from to start finish before after
    (Err NoMemory) =
    (to ≡ from) × (finish ≡ start) × (after ≡ before)
