-- A step of a format is one of the survey over it.
use Rattle.std.proofs.Common.{◌≡◌, ℕ, Bool, true, false, cond, List, [], ◌∷◌, refl, sym, subst}
use Rattle.std.specs.Prelude.{Option}
use Rattle.std.specs.Borrow.{Bor}
use Rattle.feed_types.specs.declared.line.LineId.{LineId}
use Rattle.feed_types.specs.declared.line.LineId.TheVariants.{A}
use Rattle.run_settings.specs.declared.time_span.TimeSpan.{TimeSpan}
use Rattle.run_settings.specs.TimeSpans.{is_in_span}
use Rattle.capture_records.specs.declared.capture.Record.{Record}
use Rattle.capture_records.specs.declared.capture.Record.TheVariants.{Datagram}
use Rattle.capture_records.specs.declared.record_format.Step.{Step}
use Rattle.capture_records.specs.declared.record_format.Step.TheVariants.{Came, Passed, Wants, Bad}
use Rattle.capture_records.specs.Capture.{CaptureRecord, datagram_record, record_of, renewal_record, self_help_record, skip_record}
use Rattle.capture_records.specs.Formats.{StepsTo, TakesPiece, TimedRecord, timed_record}
use Rattle.message_types.specs.declared.counts.TypeCounts.{TypeCounts}
use Rattle.message_types.specs.declared.survey.TypeSurvey.{TypeSurvey}
use Rattle.message_types.specs.TypeCountLaws.{type_counts_none}
use Rattle.message_types.specs.LineMessages.{RecordBrings}
use Rattle.message_types.specs.LineMessageLaws.{datagram_brings, line_messages, no_messages}
use Rattle.message_types.specs.TypeCounts.{CountsDatagram, CountsIf, CountsMessages, CountsRecord, CountsStep}
use Rattle.message_types.specs.TypeSurveys.{SurveysTypes, without_record}
use Rattle.message_types.proofs.Counting.{counted_none}

counts_same : (before after : TypeCounts) → after ≡ before → CountsMessages before [] after
counts_same before after same =
    subst (λ (c : TypeCounts). CountsMessages before [] c) (sym same) (type_counts_none before)

-- of one record, in the span or not
abbrev CountsOne : Bool → TypeCounts → TimedRecord → TypeCounts → Type 0
CountsOne inside before r after = CountsMessages before (cond inside (r ∷ []) []) after

same_after : (before after : TypeCounts) (inside : Bool) (r : TimedRecord)
    → RecordBrings r.what no_messages → after ≡ before → CountsOne inside before r after
same_after before after true r brings same =
    subst (λ (c : TypeCounts). CountsMessages before (r ∷ []) c) (sym same) (record {
      shown = no_messages ∷ [];
      shows = (brings, tt);
      are = counted_none before 0 A;
    })
same_after before after false r brings same = counts_same before after same

counts_if : (venue : ℕ) (line : LineId) (bytes : List ℕ) (time : Option ℕ)
    (before after : TypeCounts) (inside : Bool) → CountsIf inside before venue line bytes after
    → CountsOne inside before (timed_record (datagram_record venue line bytes) time) after
counts_if venue line bytes time before after true h = record {
  shown = line_messages venue line h.0 ∷ [];
  shows = datagram_brings venue line bytes time h.0 h.1;
  are = h.2;
}
counts_if venue line bytes time before after false h = counts_same before after h

counts_record : (what : CaptureRecord) (time : Option ℕ) (before after : TypeCounts)
    (inside : Bool) → CountsRecord inside before what after
    → CountsOne inside before (timed_record what time) after
counts_record (datagram_record venue line bytes) time before after inside h =
    counts_if venue line bytes time before after inside h
counts_record (renewal_record venue session) time before after inside h =
    same_after before after inside (timed_record (renewal_record venue session) time) refl h
counts_record (skip_record venue number) time before after inside h =
    same_after before after inside (timed_record (skip_record venue number) time) refl h
counts_record (self_help_record venue on) time before after inside h =
    same_after before after inside (timed_record (self_help_record venue on) time) refl h

is_same : {S : Type 0} (old new : TypeSurvey S) → new.format ≡ old.format
    → new.span ≡ old.span → new.counts ≡ old.counts → new ≡ old
is_same old new format span counts =
    λ i. record { format = format i; span = span i; counts = counts i }

module _ {S F : Type 0} (reads : S → List ℕ → List TimedRecord → S → List ℕ → Type 0)
    (wants : S → List ℕ → Type 0) (is_bad : S → List ℕ → F → Type 0) where
  pub type_step : (old new : TypeSurvey S) (bytes : List ℕ) (step : Step F)
      → StepsTo reads wants is_bad old.format bytes step new.format
      → CountsStep old.span old.counts step new.counts → new.span ≡ old.span
      → StepsTo (SurveysTypes reads) (λ s. wants s.format) (λ s. is_bad s.format) old bytes
      (without_record step) new
  type_step old new bytes (Came len time r) h counts span = record {
    some = h.some;
    within = h.within;
    read = record {
      read = timed_record (record_of r) time ∷ [];
      are = h.read;
      none = refl;
      counts = counts_record (record_of r) time old.counts new.counts (is_in_span old.span time)
          counts;
      span = span;
    };
  }
  type_step old new bytes (Passed len) h counts span = record {
    some = h.some;
    within = h.within;
    read = record {
      read = [];
      are = h.read;
      none = refl;
      counts = counts_same old.counts new.counts counts;
      span = span;
    };
  }
  type_step old new bytes Wants h counts span =
      (h.0, h.1, is_same old new h.2 span counts)
  type_step old new bytes (Bad fault) h counts span =
      (h.0, is_same old new h.1 span counts)

  -- where it has a record
  pub came_step : (old new : TypeSurvey S) (bytes : List ℕ) (step : Step F) (len : ℕ)
      (time : Option ℕ) (r : Record) → step ≡ Came len time r
      → StepsTo reads wants is_bad old.format bytes step new.format
      → CountsStep old.span old.counts step new.counts → new.span ≡ old.span
      → TakesPiece (SurveysTypes reads) old bytes [] len new
  came_step old new bytes step len time r is h counts span =
      type_step old new bytes (Came len time r)
      (subst (λ (s : Step F). StepsTo reads wants is_bad old.format bytes s new.format) is h)
      (subst (λ (s : Step F). CountsStep old.span old.counts s new.counts) is counts) span

-- ---- the counts

pub record_counted : (inside : Bool) (r : Record) (venue : ℕ) (line : LineId)
    (bytes : Bor (List ℕ)) (before after : TypeCounts) → r ≡ Datagram venue line bytes
    → inside ≡ true → CountsDatagram before venue line bytes.now after
    → CountsRecord inside before (record_of r) after
record_counted inside r venue line bytes before after is inner h =
    subst (λ (x : Record). CountsRecord inside before (record_of x) after) (sym is)
    (subst (λ (b : Bool). CountsIf b before venue line bytes.now after) (sym inner) h)

pub step_counted : {F : Type 0} (span : TimeSpan) (step : Step F) (len : ℕ) (time : Option ℕ)
    (r : Record) (inside : Bool) (before after : TypeCounts) → step ≡ Came len time r
    → inside ≡ is_in_span span time → CountsRecord inside before (record_of r) after
    → CountsStep span before step after
step_counted {F} span step len time r inside before after is same h =
    subst (λ (s : Step F). CountsStep span before s after) (sym is)
    (subst (λ (b : Bool). CountsRecord b before (record_of r) after) same h)
