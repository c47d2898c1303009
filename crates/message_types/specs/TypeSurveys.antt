-- Surveys of the types of messages: a format without records over another one.
use Rattle.std.specs.Prelude.{◌≡◌, ℕ, List, [], replicate}
use Rattle.run_settings.specs.declared.time_span.TimeSpan.{TimeSpan}
use Rattle.capture_records.specs.declared.record_format.Step.{Step}
use Rattle.capture_records.specs.declared.record_format.Step.TheVariants.{Came, Passed}
use Rattle.capture_records.specs.Formats.{Parsing, TimedRecord}
use Rattle.message_types.specs.declared.survey.TypeSurvey.{TypeSurvey}
use Rattle.message_types.specs.TypeCounts.{CountsRecords}

-- nothing was read of a format
pub record IsNewSurvey {S : Type 0} (format : S) (span : TimeSpan) (s : TypeSurvey S) : Type 0 where
  pub format_is : s.format ≡ format
  pub span_is : s.span ≡ span
  pub zeros : s.counts.each ≡ replicate 1152 0

-- The other format reads records, and the messages that these show are counted. There is no record.
pub record SurveysTypes {S : Type 0} (reads : S → List ℕ → List TimedRecord → S → List ℕ → Type 0)
    (before : TypeSurvey S) (bytes : List ℕ) (records : List TimedRecord) (after : TypeSurvey S)
    (rest : List ℕ) : Type 0 where
  pub read : List TimedRecord
  pub are : reads before.format bytes read after.format rest
  pub none : records ≡ []
  pub counts : CountsRecords before.span before.counts read after.counts
  pub span : after.span ≡ before.span

-- how surveys go on
abbrev pub type_parsing : {S F : Type 0} → Parsing S F → Parsing (TypeSurvey S) F
type_parsing parsing = record {
  reads = SurveysTypes parsing.reads;
  wants = λ s. parsing.wants s.format;
  is_bad = λ s. parsing.is_bad s.format;
  is_whole = λ s. parsing.is_whole s.format;
}

-- ---- one step. Only private clauses cite this part.

-- the step where a record is none
abbrev pub without_record : {F : Type 0} → Step F → Step F
without_record (Came len time r) = Passed len
without_record step = step
