-- The results of a conversion of a capture into the project's own format.
use Rattle.std.specs.Prelude.{◌≡◌, ⊤, ℕ, ◌+◌, ◌≤◌, List, [], Result, Ok, Err, map, flat_map}
use Rattle.event_sinks.specs.declared.replay_stop.ReplayStop.{ReplayStop}
use Rattle.event_sinks.specs.declared.replay_stop.ReplayStop.TheVariants.{ReadFailed, SinkFailed, Bad, Short, TooManyTurns, JournalFull, NoMemory}
use Rattle.capture_records.specs.Capture.{bytes_of_record}
use Rattle.text_out.specs.Devices.{Reading, Writing, Wrote}
use Rattle.capture_records.specs.Formats.{TimedRecord, Parsing, HasReadRecords, IsCutOff, what_of}

-- the bytes of records
abbrev pub spelled : List TimedRecord → List ℕ
spelled records = flat_map bytes_of_record (map what_of records)

-- Some calls read records and then a rest of this kind, the reader came to its last state so, and
-- the writer took the bytes of the records so.
pub record HasConverted {R S F : Type 0} (reading : Reading R) (parsing : Parsing S F) (venues : ℕ)
    (from : R) (start finish : S) (IsLeft : List ℕ → Type 0) (CameTo : ℕ → R → Type 0)
    (IsWritten : List ℕ → Type 0) : Type 0 where
  pub records : List TimedRecord
  pub calls : ℕ
  pub mid : R
  pub rest : List ℕ
  pub read : HasReadRecords reading parsing venues from calls mid start records finish rest
  pub left : IsLeft rest
  pub came_to : CameTo calls mid
  pub written : IsWritten (spelled records)

-- The results of a conversion by at most `turns` calls, by its answer.
abbrev pub AnswersConversion : {R S F W : Type 0} (reading : Reading R) (parsing : Parsing S F)
    (writing : Writing W) (venues turns : ℕ) (from to : R) (start finish : S) (before after : W)
    → Result (Unit {0}) (ReplayStop F) → Type 0
AnswersConversion reading parsing writing venues turns from to start finish before after
    (Ok done) =
    HasConverted reading parsing venues from start finish
    (λ rest. (rest ≡ []) × parsing.is_whole finish)
    (λ calls mid. (calls + 1 ≤ turns) × reading.ends mid to)
    (λ text. writing.adds before text after)
AnswersConversion reading parsing writing venues turns from to start finish before after
    (Err (Bad fault)) =
    HasConverted reading parsing venues from start finish
    (λ rest. parsing.is_bad finish rest fault) (λ calls mid. mid ≡ to)
    (λ text. writing.adds before text after)
AnswersConversion reading parsing writing venues turns from to start finish before after
    (Err Short) =
    HasConverted reading parsing venues from start finish
    (IsCutOff parsing finish) (λ calls mid. reading.ends mid to)
    (λ text. writing.adds before text after)
AnswersConversion reading parsing writing venues turns from to start finish before after
    (Err ReadFailed) =
    HasConverted reading parsing venues from start finish
    (parsing.wants finish) (λ calls mid. reading.fails mid to)
    (λ text. writing.adds before text after)
    × (reading.failures to ≡ reading.failures from + 1)
AnswersConversion reading parsing writing venues turns from to start finish before after
    (Err TooManyTurns) =
    HasConverted reading parsing venues from start finish
    (parsing.wants finish) (λ calls mid. (calls ≡ turns) × (mid ≡ to))
    (λ text. writing.adds before text after)
AnswersConversion reading parsing writing venues turns from to start finish before after
    (Err SinkFailed) =
    HasConverted reading parsing venues from start finish
    (λ rest. ⊤) (λ calls mid. mid ≡ to)
    (λ text. Wrote writing.adds before text after)
    × (writing.failures after ≡ writing.failures before + 1)
AnswersConversion reading parsing writing venues turns from to start finish before after
    (Err NoMemory) =
    (to ≡ from) × (finish ≡ start) × (after ≡ before)
AnswersConversion reading parsing writing venues turns from to start finish before after
    (Err JournalFull) = ⊥
