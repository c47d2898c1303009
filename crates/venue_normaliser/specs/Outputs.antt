-- What a venue's messages become: item n is the quotation that message n makes, or the halt, or
-- Other where it changes neither.
use Rattle.std.specs.Prelude.{◌≡◌, ℕ, ◌+◌, ◌-◌, ◌<◌, ◌≤◌, ◌&&◌, ◌==◌, true, nat_le, List, [], ◌∷◌, ◌++◌, length, map, take, drop, slice_index_or, if◌then◌else◌}
use Rattle.std.specs.List.{flat_map}
use Rattle.feed_types.specs.declared.item.Item.{Item}
use Rattle.feed_types.specs.declared.item.Item.TheVariants as items
use Rattle.feed_types.specs.declared.item.Numbered.{Numbered}
use Rattle.feed_types.specs.Sessions.{numbered_from, end_item}
use Rattle.itch_messages.specs.declared.event.OrderEvent.{OrderEvent}
use Rattle.itch_messages.specs.Events.{order_event_of}
use Rattle.itch_book.specs.declared.row.SymbolRow.{SymbolRow}
use Rattle.itch_book.specs.Books.{FitsRow, TellsOfOne}
use Rattle.itch_book.specs.Rows.{shows_halt}
use Rattle.line_arbiter.specs.Packets.{Input, Skip, end_of}
use Rattle.line_arbiter.specs.Streams.{front_of, end_at}
use Rattle.venue_normaliser.specs.Brought.{messages_brought, has_skip_past, before_skip_past}

abbrev pub events_of : List (List ℕ) → List OrderEvent
events_of messages = map order_event_of messages

-- the symbols' rows are what the messages make of them
pub record AreSymbolRows (keys : List ℕ) (events : List OrderEvent) (rows : List SymbolRow)
    : Type 0 where
  pub count : length rows ≡ length keys
  pub each : (place : ℕ) (d : SymbolRow) → place < length keys
      → FitsRow keys events place (slice_index_or rows place d)

-- the item that one message more makes, after others: what it changes of one symbol
pub record MakesItem (keys : List ℕ) (before : List OrderEvent) (event : OrderEvent) (item : Item)
    : Type 0 where
  pub old : List SymbolRow
  pub new : List SymbolRow
  pub was : AreSymbolRows keys before old
  pub is : AreSymbolRows keys (before ++ event ∷ []) new
  pub told : TellsOfOne old new item

-- the items that a symbol's row shows: its quotation, where a side has a best, and its halt
abbrev pub row_items : SymbolRow → List Item
row_items row =
    (if row.quote.bid_size == 0 && row.quote.offer_size == 0 then []
    else items.Quote row.quote ∷ [])
    ++ (if shows_halt row then items.Halt row.quote.symbol true ∷ [] else [])

-- what these messages leave, symbol by symbol
pub record AreShown (keys : List ℕ) (messages : List (List ℕ)) (shown : List Item) : Type 0 where
  pub rows : List SymbolRow
  pub are : AreSymbolRows keys (events_of messages) rows
  pub is : shown ≡ flat_map row_items rows

-- The beginning of a session: the messages of a snapshot, the number of the session's message that
-- follows it, and the items that show what the snapshot leaves.
pub record Opening : Type 0 where
  pub messages : List (List ℕ)
  pub number : ℕ
  pub shown : List Item

-- without a snapshot: from message 1 on
abbrev pub from_start : Opening
from_start = record { messages = []; number = 1; shown = [] }

-- what a session has before its first packet: the messages before the snapshot's number are given
-- up, where there are any
abbrev pub opened_at : ℕ → List Input
opened_at number = if nat_le number 1 then [] else Skip number ∷ []

-- what is put out first: what the snapshot shows, at the numbers just before its own
abbrev pub put_first : Opening → List Numbered
put_first opening = numbered_from (opening.number - length opening.shown) opening.shown

-- each item is the one that the message at its place makes, after those before it
pub record AreMadeAfter (keys : List ℕ) (before messages : List (List ℕ)) (items : List Item)
    : Type 0 where
  pub count : length items ≡ length messages
  pub each : (k : ℕ) (d : Item) → k < length messages
      → MakesItem keys (events_of (before ++ take k messages))
      (order_event_of (slice_index_or messages k [])) (slice_index_or items k d)

-- after no messages
abbrev pub AreMade : List ℕ → List (List ℕ) → List Item → Type 0
AreMade keys messages items = AreMadeAfter keys [] messages items

-- The end of what is put out of a session that is taken from a number on: at the first missing
-- number, where a gap was given up; else the session's own, where it follows its last message.
abbrev pub end_put_out_from : ℕ → List Input → List Numbered
end_put_out_from from packets =
    if has_skip_past from packets then end_item (front_of (before_skip_past from packets) + 1) ∷ []
    else end_at (end_of packets) (front_of packets + 1)

-- the same of a session that began at its first message
abbrev pub end_put_out : List Input → List Numbered
end_put_out packets = end_put_out_from 1 packets

-- What is put out of a session, of which these packets and skips came: what the snapshot shows, of
-- the messages from its number up to the first gap one item for each, with its number, and then the
-- end. Nothing follows a gap that was given up.
pub record IsPutOutFrom (keys : List ℕ) (opening : Opening) (packets : List Input)
    (output : List Numbered) : Type 0 where
  pub one : 1 ≤ opening.number
  pub items : List Item
  pub made : AreMadeAfter keys opening.messages
      (messages_brought opening.number (before_skip_past opening.number packets)) items
  pub is : output ≡ put_first opening
      ++ (numbered_from opening.number items ++ end_put_out_from opening.number packets)

-- the same of a session that began at its first message
abbrev pub IsPutOut : List ℕ → List Input → List Numbered → Type 0
IsPutOut keys packets output = IsPutOutFrom keys from_start packets output

-- What is put out of a session of these messages: what the snapshot shows; from its number on item
-- n is the one that message n makes after the snapshot's and those before it, up to the first gap;
-- and then the end.
pub record GivesItemsFrom (keys : List ℕ) (opening : Opening) (messages : List (List ℕ))
    (packets : List Input) (output : List Numbered) : Type 0 where
  pub items : List Item
  pub within : front_of (before_skip_past opening.number packets) ≤ length messages
  pub made : AreMadeAfter keys opening.messages
      (take (front_of (before_skip_past opening.number packets) + 1 - opening.number)
      (drop (opening.number - 1) messages)) items
  pub is : output ≡ put_first opening
      ++ (numbered_from opening.number items ++ end_put_out_from opening.number packets)

-- the same of a session that began at its first message
abbrev pub GivesItems : List ℕ → List (List ℕ) → List Input → List Numbered → Type 0
GivesItems keys messages packets output =
    GivesItemsFrom keys from_start messages packets output
