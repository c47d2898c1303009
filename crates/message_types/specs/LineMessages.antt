-- The messages that the records of a capture bring, by venue and line.
use Rattle.std.specs.Prelude.{◌≡◌, ℕ, ◌==◌, Bool, ◌&&◌, List, [], flat_map, if◌then◌else◌}
use Rattle.std.specs.List.{AllZip}
use Rattle.feed_types.specs.declared.line.LineId.{LineId}
use Rattle.feed_types.specs.Text.{line_letter}
use Rattle.capture_records.specs.Capture.{CaptureRecord, datagram_record}
use Rattle.capture_records.specs.Formats.{TimedRecord}
use Rattle.message_forms.specs.Datagrams.{HasMessages}

-- messages that came on a line of a venue
pub record LineMessages : Type 0 where
  pub venue : ℕ
  pub line : LineId
  pub messages : List (List ℕ)

-- a datagram has its messages, and no other record has any
abbrev pub RecordBrings : CaptureRecord → LineMessages → Type 0
RecordBrings (datagram_record venue line bytes) shown =
    (shown.venue ≡ venue) × (shown.line ≡ line) × HasMessages bytes shown.messages
RecordBrings _ shown = shown.messages ≡ []

-- the same of records, each of which has its own
abbrev pub BringMessages : List TimedRecord → List LineMessages → Type 0
BringMessages records shown = AllZip (λ r s. RecordBrings r.what s) records shown

abbrev pub came_at : ℕ → LineMessages → Bool
came_at venue shown = shown.venue == venue

abbrev pub came_on : ℕ → LineId → LineMessages → Bool
came_on venue line shown =
    came_at venue shown && (line_letter shown.line == line_letter line)

-- all messages that came at these places, in order
abbrev pub messages_if : (LineMessages → Bool) → LineMessages → List (List ℕ)
messages_if is_here shown = if is_here shown then shown.messages else []

abbrev pub messages_where : (LineMessages → Bool) → List LineMessages → List (List ℕ)
messages_where is_here shown = flat_map (messages_if is_here) shown
