-- The results of a run over a capture.
use Rattle.std.specs.Prelude.{◌≡◌, ⊤, ℕ, ◌+◌, ◌≤◌, List, [], ◌++◌, length, Result, Ok, Err, Some}
use Rattle.capture_records.specs.Formats.{HasReadRecords, IsCutOff, Parsing, TimedRecord}
use Rattle.event_sinks.specs.declared.replay_stop.ReplayStop.TheVariants.{Bad, JournalFull, NoMemory, ReadFailed, Short, SinkFailed, TooManyTurns}
use Rattle.text_out.specs.Devices.{Reading, Writing, Wrote}
use Rattle.venue_normaliser.specs.States.{ShowsTooMuch}
use Rattle.venue_normaliser.specs.Snapshots.{SnapshotContent}
use Rattle.venue_normaliser.specs.declared.resume_fault.ResumeFault.{ResumeFault}
use Rattle.venue_normaliser.specs.declared.resume_fault.ResumeFault.TheVariants as resumes
use Rattle.normalising.specs.Normalised.{GoesOnWithin, IsNewPoint, NormalisedPoint, NormalisesAll, quoted_keys, snapshot_at}
use Rattle.normalising.specs.Texts.{begun_text}
use Rattle.normalising.specs.declared.normalise_stop.NormaliseStop.{NormaliseStop}
use Rattle.normalising.specs.declared.normalise_stop.NormaliseStop.TheVariants.{Book, Fault, Replay, Snapshot}
use Rattle.normalising.specs.declared.normalised_feed.NormalisedFeed.{NormalisedFeed}

-- the number of venues
abbrev pub venues_normalised : NormalisedFeed → ℕ
venues_normalised feed = length feed.sessions.now

-- Some calls read records and then a rest of this kind; the reader came to its last state so; the
-- run took all of the records but these, up to a point of this kind, and the writer the text of
-- what it took, so.
pub record HasNormalised {R S F : Type 0} (reading : Reading R) (parsing : Parsing S F)
    (feed : NormalisedFeed) (from : R) (start finish : S) (IsRest : List ℕ → Type 0)
    (CameTo : ℕ → R → Type 0) (IsLeft : List TimedRecord → Type 0)
    (IsAfter : NormalisedPoint → Type 0)
    (IsWritten : NormalisedPoint → List TimedRecord → List ℕ → Type 0) : Type 0 where
  pub records : List TimedRecord
  pub calls : ℕ
  pub mid : R
  pub rest : List ℕ
  pub read : HasReadRecords reading parsing (venues_normalised feed) from calls mid start records
      finish rest
  pub is_rest : IsRest rest
  pub came_to : CameTo calls mid
  pub first : NormalisedPoint
  pub is_first : IsNewPoint feed first
  pub taken : List TimedRecord
  pub text : List ℕ
  pub left : List TimedRecord
  pub after : NormalisedPoint
  pub normalises : NormalisesAll feed records first taken text left after
  pub is_left : IsLeft left
  pub is_after : IsAfter after
  pub written : IsWritten after left (begun_text feed.form ++ text)

-- all records were taken
abbrev pub IsNoneLeft : List TimedRecord → Type 0
IsNoneLeft left = left ≡ []

-- a writer took all of a text
abbrev pub TookText : {W : Type 0} → Writing W → W → W → NormalisedPoint → List TimedRecord
    → List ℕ → Type 0
TookText writing before after at left text = writing.adds before text after

-- a writer that failed took a part of a text, or of that and of what is made next
abbrev pub TookPart : {W : Type 0} → Writing W → NormalisedFeed → W → W → NormalisedPoint
    → List TimedRecord → List ℕ → Type 0
TookPart writing feed before after at left text =
    (more : List ℕ) × GoesOnWithin feed at left more
    × Wrote writing.adds before (text ++ more) after

-- the venues can't be made: nothing is read or written
pub record IsNotBegun {R S W : Type 0} (from to : R) (start finish : S) (before after : W)
    : Type 0 where
  pub unread : to ≡ from
  pub same : finish ≡ start
  pub unwritten : after ≡ before

-- why a venue's snapshot doesn't begin its session
abbrev pub RefusesSnapshot : NormalisedFeed → (venue : ℕ) → ResumeFault → Type 0
RefusesSnapshot feed venue resumes.TooFewNumbers =
    (snapshot : SnapshotContent) × (snapshot_at feed.snapshots.now venue ≡ Some snapshot)
    × ShowsTooMuch (quoted_keys feed) snapshot
RefusesSnapshot feed venue (resumes.Book fault) = ⊤
RefusesSnapshot feed venue resumes.HasBegun = ⊥

-- The results of a run by at most `turns` calls, by its outcome. The point that it came to is of
-- this kind, unless the writer or a book ended it.
abbrev pub AnswersNormalising : {R S F W : Type 0} (reading : Reading R) (parsing : Parsing S F)
    (writing : Writing W) (feed : NormalisedFeed) (turns : ℕ) (from to : R) (start finish : S)
    (before after : W) → (IsAfter : NormalisedPoint → Type 0)
    → Result (Unit {0}) (NormaliseStop F) → Type 0
AnswersNormalising reading parsing writing feed turns from to start finish before after IsAfter
    (Ok done) =
    HasNormalised reading parsing feed from start finish
    (λ rest. (rest ≡ []) × parsing.is_whole finish)
    (λ calls mid. (calls + 1 ≤ turns) × reading.ends mid to)
    IsNoneLeft IsAfter (TookText writing before after)
AnswersNormalising reading parsing writing feed turns from to start finish before after IsAfter
    (Err (Replay (Bad fault))) =
    HasNormalised reading parsing feed from start finish
    (λ rest. parsing.is_bad finish rest fault) (λ calls mid. mid ≡ to)
    IsNoneLeft IsAfter (TookText writing before after)
AnswersNormalising reading parsing writing feed turns from to start finish before after IsAfter
    (Err (Replay Short)) =
    HasNormalised reading parsing feed from start finish
    (IsCutOff parsing finish) (λ calls mid. reading.ends mid to)
    IsNoneLeft IsAfter (TookText writing before after)
AnswersNormalising reading parsing writing feed turns from to start finish before after IsAfter
    (Err (Replay ReadFailed)) =
    HasNormalised reading parsing feed from start finish
    (parsing.wants finish) (λ calls mid. reading.fails mid to)
    IsNoneLeft IsAfter (TookText writing before after)
    × (reading.failures to ≡ reading.failures from + 1)
AnswersNormalising reading parsing writing feed turns from to start finish before after IsAfter
    (Err (Replay TooManyTurns)) =
    HasNormalised reading parsing feed from start finish
    (parsing.wants finish) (λ calls mid. (calls ≡ turns) × (mid ≡ to))
    IsNoneLeft IsAfter (TookText writing before after)
AnswersNormalising reading parsing writing feed turns from to start finish before after IsAfter
    (Err (Replay SinkFailed)) =
    HasNormalised reading parsing feed from start finish
    (λ rest. ⊤) (λ calls mid. mid ≡ to)
    (λ left. ⊤) (λ at. ⊤) (TookPart writing feed before after)
    × (writing.failures after ≡ writing.failures before + 1)
AnswersNormalising reading parsing writing feed turns from to start finish before after IsAfter
    (Err (Replay NoMemory)) =
    IsNotBegun from to start finish before after
AnswersNormalising reading parsing writing feed turns from to start finish before after IsAfter
    (Err (Replay JournalFull)) = ⊥
AnswersNormalising reading parsing writing feed turns from to start finish before after IsAfter
    (Err (Fault fault)) =
    IsNotBegun from to start finish before after
AnswersNormalising reading parsing writing feed turns from to start finish before after IsAfter
    (Err (Snapshot venue fault)) =
    IsNotBegun from to start finish before after × RefusesSnapshot feed venue fault
AnswersNormalising reading parsing writing feed turns from to start finish before after IsAfter
    (Err (Book venue fault)) =
    HasNormalised reading parsing feed from start finish
    (λ rest. ⊤) (λ calls mid. mid ≡ to)
    (λ left. ⊤) (λ at. ⊤) (TookText writing before after)
