-- The counts of the messages that came on each line of each venue, by type.
use Rattle.std.specs.Prelude.{◌≡◌, ℕ, ◌+◌, ◌*◌, ◌<◌, Bool, true, false, List, [], ◌∷◌, count_by, filter, slice_index_or}
use Rattle.feed_types.specs.declared.line.LineId.{LineId}
use Rattle.feed_types.specs.declared.line.LineId.TheVariants.{A, B, Recovery}
use Rattle.feed_types.specs.FullCounts.{count_after}
use Rattle.run_settings.specs.declared.time_span.TimeSpan.{TimeSpan}
use Rattle.run_settings.specs.TimeSpans.{is_in_span}
use Rattle.capture_records.specs.declared.record_format.Step.{Step}
use Rattle.capture_records.specs.declared.record_format.Step.TheVariants.{Came}
use Rattle.capture_records.specs.Capture.{CaptureRecord, datagram_record, record_of}
use Rattle.capture_records.specs.Formats.{TimedRecord}
use Rattle.message_forms.specs.Datagrams.{HasMessages}
use Rattle.message_types.specs.declared.counts.TypeCounts.{TypeCounts}
use Rattle.message_types.specs.LineMessages.{BringMessages, LineMessages, came_on, messages_where}
use Rattle.message_types.specs.Types.{is_of_type}

-- ---- what is counted

-- what came out of the span doesn't count
abbrev pub records_in : TimeSpan → List TimedRecord → List TimedRecord
records_in span records = filter (λ r. is_in_span span r.time) records

-- all messages that came on a line of a venue, in order
abbrev pub messages_on : ℕ → LineId → List LineMessages → List (List ℕ)
messages_on venue line shown = messages_where (came_on venue line) shown

-- ---- the counts

abbrev pub place_of_line : LineId → ℕ
place_of_line A = 0
place_of_line B = 1
place_of_line Recovery = 2

-- the place of a count: 24 types for each line, and three lines for each venue
abbrev pub count_place : ℕ → LineId → ℕ → ℕ
count_place venue line place = (venue * 3 + place_of_line line) * 24 + place

-- how many messages of the type at a place came on a line of a venue
abbrev pub type_count_at : TypeCounts → ℕ → LineId → ℕ → ℕ
type_count_at counts venue line place =
    slice_index_or counts.each (count_place venue line place) 0

-- Each count has gone up by the number of messages of its type among these on its line. It stays at
-- 2^64 - 1.
abbrev pub AddsCounts : TypeCounts → List LineMessages → TypeCounts → Type 0
AddsCounts before shown after =
    (venue : ℕ) (line : LineId) (place : ℕ) → venue < 16 → place < 24
    → type_count_at after venue line place
    ≡ count_after (type_count_at before venue line place)
    (count_by (is_of_type place) (messages_on venue line shown))

-- the same, of the messages that records bring
pub record CountsMessages (before : TypeCounts) (records : List TimedRecord) (after : TypeCounts)
    : Type 0 where
  pub shown : List LineMessages
  pub shows : BringMessages records shown
  pub are : AddsCounts before shown after

-- of records in a span
abbrev pub CountsRecords : TimeSpan → TypeCounts → List TimedRecord → TypeCounts → Type 0
CountsRecords span before records after =
    CountsMessages before (records_in span records) after

-- ---- one datagram. Only private clauses cite this part.

abbrev pub CountsDatagram : TypeCounts → ℕ → LineId → List ℕ → TypeCounts → Type 0
CountsDatagram before venue line bytes after =
    (messages : List (List ℕ)) × HasMessages bytes messages
    × AddsCounts before (record { venue = venue; line = line; messages = messages } ∷ []) after

-- ---- one step. Only private clauses cite this part.

-- the counts after a datagram, in the span or not
abbrev pub CountsIf : Bool → TypeCounts → ℕ → LineId → List ℕ → TypeCounts → Type 0
CountsIf true before venue line bytes after = CountsDatagram before venue line bytes after
CountsIf false before venue line bytes after = after ≡ before

abbrev pub CountsRecord : Bool → TypeCounts → CaptureRecord → TypeCounts → Type 0
CountsRecord inside before (datagram_record venue line bytes) after =
    CountsIf inside before venue line bytes after
CountsRecord inside before _ after = after ≡ before

abbrev pub CountsStep : {F : Type 0} → TimeSpan → TypeCounts → Step F → TypeCounts → Type 0
CountsStep span before (Came len time r) after =
    CountsRecord (is_in_span span time) before (record_of r) after
CountsStep span before _ after = after ≡ before
