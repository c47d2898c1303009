-- The meaning of a message of TotalView-ITCH 5.0 for a venue's orders: a table of ten forms, each
-- of one type byte and one length, with its fields at fixed offsets. All numbers are unsigned, high
-- byte first. The other forms of the standard, and all else, say nothing of orders.
use Rattle.std.specs.Prelude.{ℕ, Bool, true, false, ◌&&◌, ◌||◌, ◌==◌, if◌then◌else◌, List, length, take, drop, slice_index, Option, Some, None}
use Rattle.std.specs.Int.{w16, from_be_bytes}
use Rattle.feed_types.specs.Symbols.{is_symbol_field}
use Rattle.feed_types.specs.declared.line.Side.{Side}
use Rattle.feed_types.specs.declared.line.Side.TheVariants.{Bid, Offer}
use Rattle.quote_payload.specs.Payload.{type_at, u32_at, u64_at}
use Rattle.itch_messages.specs.declared.event.HaltKind.{HaltKind}
use Rattle.itch_messages.specs.declared.event.HaltKind.TheVariants.{Trading, Operational}
use Rattle.itch_messages.specs.declared.event.OrderEvent.{OrderEvent}
use Rattle.itch_messages.specs.declared.event.OrderEvent.TheVariants as event

-- the venue's number of the symbol, which every form has
abbrev pub locate_at : List ℕ → ℕ
locate_at message = from_be_bytes w16 (take 2 (drop 1 message))

-- the eight bytes at an offset
abbrev pub name_field_at : ℕ → List ℕ → List ℕ
name_field_at offset message = take 8 (drop offset message)

-- the side of an order: B to buy, S to sell
abbrev pub side_of_byte : ℕ → Option Side
side_of_byte byte = if byte == 0x42 then Some Bid else (if byte == 0x53 then Some Offer else None)

-- whether the symbol is halted, by its trading state: H halted, P paused, Q quoted only, T trading
abbrev pub halted_by_state : ℕ → Option Bool
halted_by_state state =
    if state == 0x54 then Some false else
    (if (state == 0x48) || ((state == 0x50) || (state == 0x51)) then Some true else None)

-- whether the venue halts the symbol, by its operational action: H halts, T ends the halt
abbrev pub halted_by_action : ℕ → Option Bool
halted_by_action action =
    if action == 0x54 then Some false else (if action == 0x48 then Some true else None)

-- a new order, with its reference
abbrev pub added_on : Option Side → List ℕ → OrderEvent
added_on None message = event.Other
added_on (Some side) message =
    if is_symbol_field (name_field_at 24 message)
    then event.Add (record {
      symbol = name_field_at 24 message;
      reference = u64_at 11 message;
      shares = u32_at 20 message;
      price = u32_at 32 message;
      locate = locate_at message;
      side = side;
    })
    else event.Other

abbrev pub add_of : List ℕ → OrderEvent
add_of message = added_on (side_of_byte (slice_index message 19)) message

-- these shares of an order are gone
abbrev pub reduce_of : List ℕ → OrderEvent
reduce_of message = event.Reduce (u64_at 11 message) (u32_at 19 message)

-- an order is gone
abbrev pub delete_of : List ℕ → OrderEvent
delete_of message = event.Delete (u64_at 11 message)

-- another order is there in its place
abbrev pub replace_of : List ℕ → OrderEvent
replace_of message =
    event.Replace (record {
      reference = u64_at 11 message;
      new_reference = u64_at 19 message;
      shares = u32_at 27 message;
      price = u32_at 31 message;
    })

-- a symbol's round lot
abbrev pub round_lot_of : List ℕ → OrderEvent
round_lot_of message =
    if is_symbol_field (name_field_at 11 message)
    then event.RoundLot (name_field_at 11 message) (u32_at 21 message) (locate_at message)
    else event.Other

-- a symbol's state by one kind of halt
abbrev pub halt_on : HaltKind → Option Bool → List ℕ → OrderEvent
halt_on kind None message = event.Other
halt_on kind (Some halted) message =
    if is_symbol_field (name_field_at 11 message)
    then event.Halt (name_field_at 11 message) kind halted (locate_at message)
    else event.Other

abbrev pub trading_halt_of : List ℕ → OrderEvent
trading_halt_of message = halt_on Trading (halted_by_state (slice_index message 19)) message

abbrev pub operational_halt_of : List ℕ → OrderEvent
operational_halt_of message =
    halt_on Operational (halted_by_action (slice_index message 20)) message

-- whether a type and a length are these
abbrev pub is_form : ℕ → ℕ → ℕ → ℕ → Bool
is_form wanted size kind len = (kind == wanted) && (len == size)

-- the event of a message of this type and length, of a symbol
abbrev pub symbol_event_by : ℕ → ℕ → List ℕ → OrderEvent
symbol_event_by kind len message =
    if is_form 0x52 39 kind len then round_lot_of message else
    (if is_form 0x48 25 kind len then trading_halt_of message else
    (if is_form 0x68 21 kind len then operational_halt_of message else event.Other))

-- and of an order
abbrev pub event_by : ℕ → ℕ → List ℕ → OrderEvent
event_by kind len message =
    if is_form 0x41 36 kind len then add_of message else
    (if is_form 0x44 19 kind len then delete_of message else
    (if is_form 0x45 31 kind len then reduce_of message else
    (if is_form 0x55 35 kind len then replace_of message else
    (if is_form 0x58 23 kind len then reduce_of message else
    (if is_form 0x46 40 kind len then add_of message else
    (if is_form 0x43 36 kind len then reduce_of message else
    symbol_event_by kind len message))))))

-- the event that a message is
unfoldable pub order_event_of : List ℕ → OrderEvent
order_event_of message = event_by (type_at message) (length message) message
