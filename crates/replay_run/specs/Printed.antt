-- What a sink is told of a replay: its events, and the headline of them.
use Rattle.std.specs.Prelude.{ℕ, List, [], ◌∷◌, ◌++◌, map}
use Rattle.feed_types.specs.declared.item.Numbered.{Numbered}
use Rattle.feed_text.specs.declared.replay.ReplayConfig.{ReplayConfig}
use Rattle.capture_records.specs.Formats.{TimedRecord, what_of}
use Rattle.feed_text.specs.ReplayEvents.{entries_of}
use Rattle.event_sinks.specs.SinkEvents.{TimedEvent}
use Rattle.feed_text.specs.Told.{IsToldOfAll, IsToldToFull, IsToldUpTo, ToldFacts}
use Rattle.feed_text.specs.ToldJournal.{items_of_venue}
use Rattle.replay_run.specs.ToldHeadline.{TellsHeadline}

-- what is told, where all that is taken has room: of each venue all of its items are told
abbrev pub TellsAll : {config : ReplayConfig} {records left : List TimedRecord}
    {first : List TimedEvent} → IsToldUpTo config records left first → List TimedEvent → Type 0
TellsAll {config = config} is told =
    TellsHeadline config.symbols.now (map what_of is.taken) is.histories (entries_of [] is.emitted)
    (λ place. items_of_venue place told) told

-- what is told of records of which these are left
pub record IsToldOfRun (config : ReplayConfig) (records left : List TimedRecord)
    (told : List TimedEvent) : Type 0 where
  pub is : IsToldUpTo config records left told
  pub headline : TellsAll is told

-- what is told of a whole capture
pub record IsToldOfWholeRun (config : ReplayConfig) (records : List TimedRecord)
    (told : List TimedEvent) : Type 0 where
  pub whole : IsToldOfAll config records told
  pub headline : TellsAll whole.is told

-- What is told up to a full journal: after what is told of a venue, these are its other items,
-- which find no room.
pub record IsToldOfRunToFull (config : ReplayConfig) (records : List TimedRecord)
    (told : List TimedEvent) : Type 0 where
  pub full : IsToldToFull config records told
  pub waiting : ℕ → List Numbered
  pub headline : TellsHeadline config.symbols.now
      (map what_of (full.before.taken ++ full.last ∷ [])) full.after
      (entries_of [] (full.before.emitted ++ full.first))
      (λ place. items_of_venue place told ++ waiting place) told

-- what a sink is told, with its headline
abbrev pub facts_of_run : ReplayConfig → ToldFacts
facts_of_run config = record {
  OfRecords = λ records told. IsToldOfRun config records [] told;
  OfCapture = IsToldOfWholeRun config;
  ToFull = IsToldOfRunToFull config;
  OfSome = λ records told. (left : List TimedRecord) × IsToldOfRun config records left told;
}
