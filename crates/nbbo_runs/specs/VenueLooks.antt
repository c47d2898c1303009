-- What the messages of each venue look like, and what is said of these at the end.
use Rattle.std.specs.Prelude.{◌≡◌, ◌==◌, ℕ, ◌<◌, List, [], ◌∷◌, codes, decimal, length, slice_index_or, Option, None, Some, if◌then◌else◌}
use Rattle.capture_records.specs.declared.record_format.Step.{Step}
use Rattle.capture_records.specs.declared.record_format.Step.TheVariants.{Came}
use Rattle.capture_records.specs.Capture.{CaptureRecord, datagram_record, record_of}
use Rattle.capture_records.specs.Formats.{TimedRecord}
use Rattle.message_forms.specs.declared.payload.Payload.{Payload}
use Rattle.message_forms.specs.declared.payload.Payload.TheVariants.{Neither, Itch, Own}
use Rattle.message_forms.specs.Datagrams.{HasMessages}
use Rattle.message_forms.specs.Payloads.{look_with}
use Rattle.message_types.specs.LineMessages.{BringMessages, LineMessages, came_at, messages_where}

-- ---- what they look like

abbrev pub look_at : List Payload → ℕ → Payload
look_at looks venue = slice_index_or looks venue Neither

-- each venue's messages look as they did, and then as these of it do
pub record AreLooks (before : List Payload) (messages : ℕ → List (List ℕ)) (after : List Payload)
    : Type 0 where
  pub count : length after ≡ length before
  pub each : (venue : ℕ) → venue < length before
      → look_at after venue ≡ look_with (look_at before venue) (messages venue)

-- the same, of the messages that records bring
pub record SeesLooks (before : List Payload) (records : List TimedRecord) (after : List Payload)
    : Type 0 where
  pub shown : List LineMessages
  pub shows : BringMessages records shown
  pub are : AreLooks before (λ venue. messages_where (came_at venue) shown) after

-- ---- one step. Only private clauses cite this part.

-- the venue and the bytes of a datagram
abbrev pub record_datagram : CaptureRecord → Option (ℕ × List ℕ)
record_datagram (datagram_record venue line bytes) = Some (venue, bytes)
record_datagram _ = None

abbrev pub step_datagram : {F : Type 0} → Step F → Option (ℕ × List ℕ)
step_datagram (Came len time r) = record_datagram (record_of r)
step_datagram _ = None

-- messages of one venue
abbrev pub only_at : ℕ → List (List ℕ) → ℕ → List (List ℕ)
only_at here messages venue = if here == venue then messages else []

-- what the messages of a datagram make its venue's look like
abbrev pub LooksWith : List Payload → ℕ → List ℕ → List Payload → Type 0
LooksWith before venue bytes after =
    (messages : List (List ℕ)) × HasMessages bytes messages
    × AreLooks before (only_at venue messages) after

abbrev pub LooksBy : List Payload → Option (ℕ × List ℕ) → List Payload → Type 0
LooksBy before None after = after ≡ before
LooksBy before (Some d) after = LooksWith before d.0 d.1 after

-- ---- what is said

abbrev pub look_texts : ℕ → Payload → List (List ℕ)
look_texts venue Itch =
    codes "nbbo: venue " ∷ decimal venue
    ∷ codes "'s messages look like ITCH; normalise turns them into quotations\n" ∷ []
look_texts venue Neither = []
look_texts venue Own = []
