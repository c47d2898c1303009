-- The laws of the messages that records bring.
use Rattle.std.proofs.Common.{◌≡◌, ℕ, Bool, true, false, List, [], ◌∷◌, ◌++◌, append-nil, cond, refl, ◌∙◌}
use Rattle.std.specs.Prelude.{Option}
use Rattle.std.proofs.lemmas.Grind.{flat_map-append}
use Rattle.feed_types.specs.ListLaws.{zip_both}
use Rattle.feed_types.specs.declared.line.LineId.{LineId}
use Rattle.feed_types.specs.declared.line.LineId.TheVariants.{A}
use Rattle.capture_records.specs.Capture.{datagram_record}
use Rattle.capture_records.specs.Formats.{TimedRecord, timed_record}
use Rattle.message_forms.specs.Datagrams.{HasMessages}
use Rattle.message_types.specs.LineMessages.{BringMessages, LineMessages, RecordBrings, messages_where, messages_if}

abbrev pub line_messages : ℕ → LineId → List (List ℕ) → LineMessages
line_messages venue line messages = record { venue = venue; line = line; messages = messages }

-- none, where a record brings none
abbrev pub no_messages : LineMessages
no_messages = line_messages 0 A []

-- some records, and then others
pub brings_more : (rs qs : List TimedRecord) (some others : List LineMessages)
    → BringMessages rs some → BringMessages qs others → BringMessages (rs ++ qs) (some ++ others)
brings_more rs qs some others h k =
    zip_both (λ (r : TimedRecord) (s : LineMessages). RecordBrings r.what s) rs qs some others h k

pub messages_more : (is_here : LineMessages → Bool) (some others : List LineMessages)
    → messages_where is_here (some ++ others)
    ≡ messages_where is_here some ++ messages_where is_here others
messages_more is_here some others = flat_map-append (messages_if is_here) some others

-- a datagram
pub datagram_brings : (venue : ℕ) (line : LineId) (bytes : List ℕ) (time : Option ℕ)
    (messages : List (List ℕ)) → HasMessages bytes messages
    → BringMessages (timed_record (datagram_record venue line bytes) time ∷ [])
    (line_messages venue line messages ∷ [])
datagram_brings venue line bytes time messages has = ((refl, refl, has), tt)

-- messages of one place
pub messages_of_one : (is_here : LineMessages → Bool) (shown : LineMessages)
    → messages_where is_here (shown ∷ []) ≡ messages_if is_here shown
messages_of_one is_here shown = append-nil (messages_if is_here shown)

none_if : (b : Bool) (none : List (List ℕ)) → none ≡ [] → cond b none [] ++ [] ≡ []
none_if true none h = append-nil none ∙ h
none_if false none h = refl

pub none_where : (is_here : LineMessages → Bool) (venue : ℕ) (line : LineId)
    → messages_where is_here (line_messages venue line [] ∷ []) ≡ []
none_where is_here venue line = none_if (is_here (line_messages venue line [])) [] refl
