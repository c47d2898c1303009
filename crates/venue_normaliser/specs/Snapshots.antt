-- A snapshot of a venue's live orders: messages of ITCH, each in a block as MoldUDP64 has them, and
-- at its end the message End of Snapshot, which has the number of the session's next message:
-- Glimpse 5.0.
use Rattle.std.specs.Prelude.{◌≡◌, ℕ, ◌+◌, ◌-◌, ◌*◌, ◌<◌, ◌≤◌, ◌&&◌, nat_le, Bool, true, false, List, [], ◌++◌, length, fold, take, drop, slice_index, IsTrue}
use Rattle.std.specs.List.{flat_map, AllByRecursion}
use Rattle.feed_types.specs.Symbols.{is_space}
use Rattle.mold_packet.specs.Block.{block, IsCut, IsMessage}
use Rattle.quote_payload.specs.Payload.{type_at}
use Rattle.itch_messages.specs.declared.event.OrderEvent.{OrderEvent}
use Rattle.itch_messages.specs.declared.event.OrderEvent.TheVariants.{Add, Reduce, Delete, Replace, RoundLot, Halt, Other}
use Rattle.itch_messages.specs.Events.{is_form, order_event_of}
use Rattle.itch_messages.specs.Forms.{is_one_of, silent_forms}
use Rattle.venue_normaliser.specs.declared.snapshot_fault.SnapshotFault.{SnapshotFault}
use Rattle.venue_normaliser.specs.declared.snapshot_fault.SnapshotFault.TheVariants.{Cut, NoEnd, NotOfSnapshot, BadNumber, AfterEnd}

-- the event states what stands: an order, a round lot or a halt; or the message is of a form that
-- says nothing of these
abbrev pub states : List ℕ → OrderEvent → Bool
states message (Add order) = true
states message (RoundLot symbol shares locate) = true
states message (Halt symbol kind halted locate) = true
states message (Reduce reference shares) = false
states message (Delete reference) = false
states message (Replace other) = false
states message Other = is_one_of silent_forms message

abbrev pub is_of_snapshot : List ℕ → Bool
is_of_snapshot message = states message (order_event_of message)

abbrev pub is_digit : ℕ → Bool
is_digit byte = nat_le 0x30 byte && nat_le byte 0x39

-- the number that digits are
abbrev pub digits_value : List ℕ → ℕ
digits_value digits = fold (λ n byte. n * 10 + (byte - 0x30)) 0 digits

-- from one place to another there are digits, and spaces before and after them
pub record HasDigits (field : List ℕ) (from to : ℕ) : Type 0 where
  pub some : from < to
  pub within : to ≤ length field
  pub before : (k : ℕ) → k < from → is_space (slice_index field k) ≡ true
  pub digits : (k : ℕ) → from ≤ k → k < to → is_digit (slice_index field k) ≡ true
  pub after : (k : ℕ) → to ≤ k → k < length field → is_space (slice_index field k) ≡ true

-- a number in digits, with spaces before and after them
pub record IsNumberField (field : List ℕ) (number : ℕ) : Type 0 where
  pub from : ℕ
  pub to : ℕ
  pub there : HasDigits field from to
  pub is : number ≡ digits_value (take (to - from) (drop from field))

-- the form of End of Snapshot: type G, and a number field of 20 bytes
abbrev pub is_end_form : List ℕ → Bool
is_end_form message = is_form 0x47 21 (type_at message) (length message)

-- a message that ends a snapshot, with the number of the session's next message, 1 to 4,294,967,295
pub record EndsSnapshot (message : List ℕ) (number : ℕ) : Type 0 where
  pub form : is_end_form message ≡ true
  pub field : IsNumberField (drop 1 message) number
  pub one : 1 ≤ number
  pub most : number ≤ 4294967295

-- the bytes begin with the blocks of these messages, each of which a snapshot may have
pub record BeginsSnapshot (bytes : List ℕ) (messages : List (List ℕ)) (rest : List ℕ)
    : Type 0 where
  pub each : AllByRecursion IsMessage messages
  pub states : AllByRecursion (λ message. IsTrue (is_of_snapshot message)) messages
  pub spelled : bytes ≡ flat_map block messages ++ rest

-- the bytes are a snapshot: these messages, and then its end with this number
pub record IsSnapshot (bytes : List ℕ) (messages : List (List ℕ)) (number : ℕ) : Type 0 where
  pub end : List ℕ
  pub ends : EndsSnapshot end number
  pub begins : BeginsSnapshot bytes messages (block end)

-- after messages that a snapshot may have, what begins at this byte is this
pub record StopsWith (bytes : List ℕ) (byte : ℕ) (is : List ℕ → Type 0) : Type 0 where
  pub messages : List (List ℕ)
  pub rest : List ℕ
  pub begins : BeginsSnapshot bytes messages rest
  pub at : byte ≡ length (flat_map block messages)
  pub cause : is rest

-- a part of a block
pub record IsPart (rest : List ℕ) : Type 0 where
  pub some : 0 < length rest
  pub cut : IsCut rest

-- a message that is none of a snapshot's
pub record IsOther (rest : List ℕ) : Type 0 where
  pub message : List ℕ
  pub after : List ℕ
  pub spelled : rest ≡ block message ++ after
  pub fits : IsMessage message
  pub none : is_of_snapshot message ≡ false
  pub not_end : is_end_form message ≡ false

-- an End of Snapshot without a number
pub record HasNoNumber (rest : List ℕ) : Type 0 where
  pub message : List ℕ
  pub after : List ℕ
  pub spelled : rest ≡ block message ++ after
  pub fits : IsMessage message
  pub form : is_end_form message ≡ true
  pub none : (number : ℕ) → EndsSnapshot message number → ⊥

-- bytes after the end, of which the first is this one
pub record GoesPastEnd (bytes : List ℕ) (byte : ℕ) : Type 0 where
  pub messages : List (List ℕ)
  pub number : ℕ
  pub snapshot : List ℕ
  pub after : List ℕ
  pub is : IsSnapshot snapshot messages number
  pub spelled : bytes ≡ snapshot ++ after
  pub at : byte ≡ length snapshot
  pub some : 0 < length after

-- why bytes are no snapshot, and at which byte, counted from 0
abbrev pub HasSnapshotFault : List ℕ → SnapshotFault → Type 0
HasSnapshotFault bytes (NoEnd byte) = StopsWith bytes byte (λ rest. rest ≡ [])
HasSnapshotFault bytes (Cut byte) = StopsWith bytes byte IsPart
HasSnapshotFault bytes (NotOfSnapshot byte) = StopsWith bytes byte IsOther
HasSnapshotFault bytes (BadNumber byte) = StopsWith bytes byte HasNoNumber
HasSnapshotFault bytes (AfterEnd byte) = GoesPastEnd bytes byte

-- the messages of a snapshot before its end, and the number of the session's next message
pub record SnapshotContent : Type 0 where
  pub messages : List (List ℕ)
  pub number : ℕ
