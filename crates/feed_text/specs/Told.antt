-- What a sink is told of the records of a capture: of those that are taken, which are the records
-- and those that a replay puts in, each one's events at its time.
use Rattle.std.specs.Prelude.{◌≡◌, ◌<◌, ℕ, Option, List, [], ◌∷◌, ◌++◌, length, map, None}
use Rattle.feed_types.specs.declared.journal.Entry.{Entry}
use Rattle.line_arbiter.specs.Histories.{History}
use Rattle.feed_text.specs.declared.replay.ReplayConfig.{ReplayConfig}
use Rattle.feed_text.specs.declared.standing_gap.StandingGap.{StandingGap}
use Rattle.capture_records.specs.Formats.{TimedRecord, what_of}
use Rattle.feed_text.specs.ReplayEvents.{ReplayEvent, entries_of}
use Rattle.feed_text.specs.Emitted.{Emits, EmitsRecord}
use Rattle.event_sinks.specs.SinkEvents.{TimedEvent, at_time}
use Rattle.feed_text.specs.Tellings.{told_of, lasts_told}
use Rattle.feed_text.specs.Texts.{EmitsAll, HasJournalRoom, new_histories}
use Rattle.feed_text.specs.Rules.{AreTakenOf, IsTakenNext, ReplayPoint, new_point}

-- what is told of records that emit these events, after these entries
abbrev pub told_by_records : (config : ReplayConfig) (records : List TimedRecord)
    (old : List History) (entries : List Entry) (emitted : List ReplayEvent) (new : List History)
    → Emits config.window config.gaps (map what_of records) old emitted new → List TimedEvent
told_by_records config [] old entries emitted new emits = []
told_by_records config (r ∷ rs) old entries emitted new (mid, first, others, one, rest, whole) =
    at_time r.time (told_of config.symbols.now entries first)
    ++ told_by_records config rs mid (entries_of entries first) others new rest

-- What is told of records of which these are left: of the others these are taken, the records
-- themselves and those that a replay puts in; they emit these events, which have room in the
-- journal, and lead to these histories.
pub record IsToldUpTo (config : ReplayConfig) (records left : List TimedRecord)
    (told : List TimedEvent) : Type 0 where
  pub taken : List TimedRecord
  pub emitted : List ReplayEvent
  pub histories : List History
  pub standing : ℕ → Option StandingGap
  pub are_taken : AreTakenOf config records (new_point config) taken left
      (record { histories = histories; standing = standing })
  pub emits : EmitsAll config (map what_of taken) emitted histories
  pub room : HasJournalRoom config emitted
  pub told_is : told
      ≡ told_by_records config taken (new_histories config) [] emitted histories emits

-- the point that they lead to
abbrev pub point_told : {config : ReplayConfig} {records left : List TimedRecord}
    {told : List TimedEvent} → IsToldUpTo config records left told → ReplayPoint
point_told x = record { histories = x.histories; standing = x.standing }

-- what is told of records, without the venues' last events; and of some of them
abbrev pub IsToldOf : ReplayConfig → List TimedRecord → List TimedEvent → Type 0
IsToldOf config records told = IsToldUpTo config records [] told

abbrev pub IsToldSome : ReplayConfig → List TimedRecord → List TimedEvent → Type 0
IsToldSome config records told = (left : List TimedRecord) × IsToldUpTo config records left told

-- what is told of a whole capture: of its records, and then the venues' last events
pub record IsToldOfAll (config : ReplayConfig) (records : List TimedRecord)
    (told : List TimedEvent) : Type 0 where
  pub first : List TimedEvent
  pub is : IsToldUpTo config records [] first
  pub told_is : told ≡ first ++ at_time None (lasts_told 0 is.histories)

-- What is told up to a full journal: all that is taken before the last one, which is the record
-- that was read last, or one that is put in before it; its first events have room, too, and the
-- next one would add an entry past the journal's end.
pub record IsToldToFull (config : ReplayConfig) (records : List TimedRecord)
    (told : List TimedEvent) : Type 0 where
  pub read_last : TimedRecord
  pub told_before : List TimedEvent
  pub before : IsToldUpTo config records (read_last ∷ []) told_before
  pub last : TimedRecord
  pub left : List TimedRecord
  pub is_last : IsTakenNext config (point_told before) (read_last ∷ []) last left
  pub first : List ReplayEvent
  pub next : ReplayEvent
  pub others : List ReplayEvent
  pub after : List History
  pub last_emits : EmitsRecord config.window config.gaps last.what before.histories
      (first ++ next ∷ others) after
  pub room : HasJournalRoom config (before.emitted ++ first)
  pub full : config.journal < length (entries_of [] (before.emitted ++ first ++ next ∷ []))
  pub told_is : told ≡ told_before
      ++ at_time last.time (told_of config.symbols.now (entries_of [] before.emitted) first)

-- What a definition says of what is told of records, of a whole capture, up to a full journal, and
-- of some records.
pub record ToldFacts : Type 1 where
  pub OfRecords : List TimedRecord → List TimedEvent → Type 0
  pub OfCapture : List TimedRecord → List TimedEvent → Type 0
  pub ToFull : List TimedRecord → List TimedEvent → Type 0
  pub OfSome : List TimedRecord → List TimedEvent → Type 0

abbrev pub told_facts : ReplayConfig → ToldFacts
told_facts config = record {
  OfRecords = IsToldOf config;
  OfCapture = IsToldOfAll config;
  ToFull = IsToldToFull config;
  OfSome = IsToldSome config;
}
