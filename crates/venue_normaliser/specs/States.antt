-- A venue's normaliser, and the packets and skips that it was given in the present session.
use Rattle.std.specs.Prelude.{◌≡◌, ℕ, ◌+◌, ◌<◌, ◌≤◌, Bool, false, List, ◌++◌, length}
use Rattle.feed_types.specs.declared.item.Item.{Item}
use Rattle.feed_types.specs.declared.item.Numbered.{Numbered}
use Rattle.itch_book.specs.Books.{OrderBookState, FitsEvents}
use Rattle.line_arbiter.specs.Packets.{Input}
use Rattle.line_arbiter.specs.Streams.{front_of}
use Rattle.line_arbiter.specs.States.{State, IsNew}
use Rattle.line_arbiter.specs.Fits.{Fits}
use Rattle.line_arbiter.specs.Skips.{AllSent}
use Rattle.venue_normaliser.specs.declared.message_slot.MessageSlot.{MessageSlot}
use Rattle.venue_normaliser.specs.declared.end_number.EndNumber.{EndNumber}
use Rattle.venue_normaliser.specs.Brought.{has_skip_past, messages_brought}
use Rattle.venue_normaliser.specs.Outputs.{AreShown, IsPutOutFrom, Opening, events_of, from_start, opened_at, put_first}
use Rattle.venue_normaliser.specs.Slots.{KeepsTaken}
use Rattle.venue_normaliser.specs.Snapshots.{SnapshotContent}

-- the arbiter of the venue's lines, the slots, the orders, whether a gap was given up in the
-- present session, and how an end's number is read
pub record NormaliserState : Type 0 where
  pub lines : State
  pub slots : List MessageSlot
  pub book : OrderBookState
  pub has_given_up : Bool
  pub end_number : EndNumber

-- the orders are those that the snapshot and the messages up to the first gap leave, and the slots
-- have the messages past it
pub record KeepsSession (s : NormaliserState) (opening : Opening) (packets : List Input)
    : Type 0 where
  pub slots : KeepsTaken s.slots s.lines.sent packets
  pub book : FitsEvents s.book
      (events_of (opening.messages ++ messages_brought opening.number packets))

-- The state is that after these packets and skips of the present session, which began so: all that
-- is ready was put out, no message before the opening's number is missing, and unless a gap was
-- given up, the session is kept.
pub record FitsOpened (s : NormaliserState) (opening : Opening) (packets : List Input)
    : Type 0 where
  pub lines : Fits s.lines packets
  pub all_sent : AllSent packets s.lines.sent
  pub from : (1 ≤ opening.number) × (opening.number ≤ front_of packets + 1)
  pub given_up : s.has_given_up ≡ has_skip_past opening.number packets
  pub session : s.has_given_up ≡ false → KeepsSession s opening packets

-- the same of a session that began at its first message
abbrev pub FitsPackets : NormaliserState → List Input → Type 0
FitsPackets s packets = FitsOpened s from_start packets

-- What a call puts out: it follows what the caller had there, and with what was put out before it
-- is what these packets and skips make.
pub record PutsOutFrom (keys : List ℕ) (opening : Opening) (before after : List Input)
    (old new : List Numbered) : Type 0 where
  pub more : List Numbered
  pub appended : new ≡ old ++ more
  pub whole : (output : List Numbered) → IsPutOutFrom keys opening before output
      → IsPutOutFrom keys opening after (output ++ more)

-- the same of a session that began at its first message
abbrev pub PutsOut : List ℕ → List Input → List Input → List Numbered → List Numbered → Type 0
PutsOut keys before after old new = PutsOutFrom keys from_start before after old new

-- the beginning of a session at a snapshot, which shows these items
abbrev pub opening_of : SnapshotContent → List Item → Opening
opening_of snapshot shown = record {
  messages = snapshot.messages;
  number = snapshot.number;
  shown = shown;
}

-- A session of which nothing came begins with a snapshot: with the orders that its messages leave,
-- and at its number, so that nothing before that is missing. What they show is put out at the
-- numbers just before.
pub record Resumes (snapshot : SnapshotContent) (old new : NormaliserState)
    (before after : List Numbered) : Type 0 where
  pub shown : List Item
  pub are : AreShown old.book.keys snapshot.messages shown
  pub places : length shown < snapshot.number
  pub put : after ≡ before ++ put_first (opening_of snapshot shown)
  pub fits : FitsOpened new (opening_of snapshot shown) (opened_at snapshot.number)

-- a snapshot shows as many items as its number, or more
pub record ShowsTooMuch (keys : List ℕ) (snapshot : SnapshotContent) : Type 0 where
  pub shown : List Item
  pub are : AreShown keys snapshot.messages shown
  pub many : snapshot.number ≤ length shown

-- what every call leaves as it is
pub record KeepsItsBook (old new : NormaliserState) : Type 0 where
  pub keys : new.book.keys ≡ old.book.keys
  pub end_number : new.end_number ≡ old.end_number

-- a normaliser that was given nothing
pub record IsNewNormaliser (s : NormaliserState) (venue : ℕ) (name symbols : List ℕ) (width : ℕ)
    (ends : EndNumber) : Type 0 where
  pub lines : IsNew s.lines venue name width
  pub keys : s.book.keys ≡ symbols
  pub end_number : s.end_number ≡ ends
