-- One message's and several messages' effect on the orders and on what is put out. Cited by private
-- clauses alone.
use Rattle.std.specs.Prelude.{◌≡◌, ℕ, ◌+◌, ◌-◌, ◌≤◌, ◌⊎◌, false, nat_le, List, [], ◌∷◌, ◌++◌, length, map, min, Result, IsTrue, true, if◌then◌else◌}
use Rattle.std.specs.List.{AllByRecursion, range_with_len}
use Rattle.feed_types.specs.declared.item.Item.{Item}
use Rattle.feed_types.specs.declared.item.Numbered.{Numbered}
use Rattle.feed_types.specs.Sessions.{numbered_from}
use Rattle.itch_messages.specs.declared.event.OrderEvent.{OrderEvent}
use Rattle.itch_book.specs.Books.{OrderBookState, FitsEvents}
use Rattle.feed_types.specs.declared.line.LineId.{LineId}
use Rattle.mold_packet.specs.Block.{HasBlocks}
use Rattle.mold_packet.specs.Content.{Content}
use Rattle.line_arbiter.specs.declared.outcome.Outcome.{Outcome}
use Rattle.line_arbiter.specs.declared.outcome.LineFault.{LineFault}
use Rattle.line_arbiter.specs.Outcomes.{IsOutcome}
use Rattle.line_arbiter.specs.Packets.{Input, arrival_of, end_of}
use Rattle.line_arbiter.specs.Streams.{front_of, end_at}
use Rattle.line_arbiter.specs.States.{State, KeepsAllButSent}
use Rattle.line_arbiter.specs.Fits.{Fits}
use Rattle.line_arbiter.specs.Skips.{AllSent}
use Rattle.venue_normaliser.specs.declared.message_slot.MessageSlot.{MessageSlot}
use Rattle.venue_normaliser.specs.Brought.{taken_bytes}
use Rattle.venue_normaliser.specs.Outputs.{AreMadeAfter, MakesItem, events_of}
use Rattle.venue_normaliser.specs.Slots.{KeepsTaken}
use Rattle.venue_normaliser.specs.Snapshots.{is_of_snapshot}
use Rattle.venue_normaliser.specs.States.{NormaliserState}

-- a message was applied, and its item is put out after what was there
pub record PutsOneItem (number : ℕ) (event : OrderEvent) (old new : OrderBookState)
    (before after : List Numbered) : Type 0 where
  pub item : Item
  pub appended : after ≡ before ++ record { number = number; item = item } ∷ []
  pub keys : new.keys ≡ old.keys
  pub fits : (events : List OrderEvent) → FitsEvents old events
      → FitsEvents new (events ++ event ∷ [])
  pub made : (events : List OrderEvent) → FitsEvents old events
      → MakesItem old.keys events event item

-- messages were applied one after another, from this number on
pub record PutsMany (number : ℕ) (messages : List (List ℕ)) (old new : OrderBookState)
    (before after : List Numbered) : Type 0 where
  pub items : List Item
  pub appended : after ≡ before ++ numbered_from number items
  pub count : length items ≡ length messages
  pub keys : new.keys ≡ old.keys
  pub fits : (earlier : List (List ℕ)) → FitsEvents old (events_of earlier)
      → FitsEvents new (events_of (earlier ++ messages))
  pub made : (first earlier : List (List ℕ)) (made : List Item)
      → FitsEvents old (events_of (first ++ earlier)) → AreMadeAfter old.keys first earlier made
      → AreMadeAfter old.keys first (earlier ++ messages) (made ++ items)

-- the messages after one number up to another
abbrev pub messages_between : List Input → ℕ → ℕ → List (List ℕ)
messages_between packets from to =
    map (taken_bytes packets) (range_with_len (from + 1) (to - from))

-- All that is ready was put out: the messages past the last one sent, up to the first gap, and the
-- end, where it follows and wasn't sent.
pub record PutsReady (packets : List Input) (stored : List MessageSlot) (old new : State)
    (old_book new_book : OrderBookState) (before after : List Numbered) : Type 0 where
  pub messages : List Numbered
  pub lines : Fits new packets
  pub all_sent : AllSent packets new.sent
  pub kept : KeepsAllButSent old new
  pub slots : KeepsTaken stored new.sent packets
  pub puts : PutsMany (old.sent + 1) (messages_between packets old.sent (front_of packets))
      old_book new_book before messages
  pub end : after ≡ messages
      ++ (if nat_le old.sent (front_of packets) then end_at (end_of packets) (front_of packets + 1)
      else [])

-- Of a packet's messages those were put out that go on where nothing is held, and the others are
-- kept, where no gap was given up.
pub record BringsMessages (before after : List Input) (old new : NormaliserState)
    (old_out new_out : List Numbered) : Type 0 where
  pub slots : KeepsTaken new.slots new.lines.sent after
  pub from : front_of before ≤ new.lines.sent
  pub within : (new.lines.sent ≤ front_of after)
      ⊎ ((1 ≤ length (end_at (end_of before) (front_of before + 1)))
      × (new.lines.sent ≡ front_of before + 1))
  pub ended : 1 ≤ length (end_at (end_of before) (front_of before + 1))
      → new.lines.sent ≡ front_of before + 1
  pub puts : PutsMany (front_of before + 1)
      (messages_between after (front_of before) (min new.lines.sent (front_of after)))
      old.book new.book old_out new_out

-- A packet was taken with this answer, and what is ready then isn't put out yet.
pub record BringsPacket (line : LineId) (packet : Content) (answer : Result Outcome LineFault)
    (before : List Input) (old new : NormaliserState) (old_out new_out : List Numbered)
    : Type 0 where
  pub outcome : IsOutcome old.lines.session old.lines.window old.lines.sent before packet answer
  pub lines : Fits new.lines (before ++ arrival_of line packet answer ∷ [])
  pub given_up : new.has_given_up ≡ old.has_given_up
  pub session : old.has_given_up ≡ false
      → BringsMessages before (before ++ arrival_of line packet answer ∷ []) old new
      old_out new_out
  pub none : old.has_given_up ≡ true → new_out ≡ old_out

-- The bytes begin with so many blocks of messages that a snapshot may have, and this rest follows.
pub record HasStated (count : ℕ) (bytes rest : List ℕ) : Type 0 where
  pub messages : List (List ℕ)
  pub blocks : HasBlocks count bytes messages rest
  pub stated : AllByRecursion (λ message. IsTrue (is_of_snapshot message)) messages
