-- A book and the messages that were applied to it.
use Rattle.std.specs.Prelude.{◌≡◌, ℕ, ◌<◌, ◌==◌, ◌&&◌, not, Bool, true, false, List, [], fold, length, slice_index_or, Option, Some, None, if◌then◌else◌}
use Rattle.feed_types.specs.Symbols.{key_of}
use Rattle.feed_types.specs.declared.item.Item.{Item}
use Rattle.feed_types.specs.declared.line.Side.TheVariants.{Bid, Offer}
use Rattle.itch_messages.specs.declared.event.HaltKind.{HaltKind}
use Rattle.itch_messages.specs.declared.event.HaltKind.TheVariants.{Trading, Operational}
use Rattle.itch_messages.specs.declared.event.OrderEvent.{OrderEvent}
use Rattle.itch_messages.specs.declared.event.OrderEvent.TheVariants.{Add, Reduce, Delete, Replace, RoundLot, Halt, Other}
use Rattle.itch_book.specs.declared.level.Level.{Level}
use Rattle.itch_book.specs.declared.oddity.Oddities.{Oddities}
use Rattle.itch_book.specs.declared.order.Order.{Order}
use Rattle.itch_book.specs.declared.row.SymbolRow.{SymbolRow}
use Rattle.itch_book.specs.Bests.{IsBestOf, depth}
use Rattle.itch_book.specs.Inside.{Holds}
use Rattle.itch_book.specs.Oddities.{no_oddities, oddities_after, oddity_of}
use Rattle.itch_book.specs.Orders.{book_side, orders_after, place_among}
use Rattle.itch_book.specs.Rows.{Tells, shown_price, shown_size}

-- the live orders that messages leave, and the numbers of odd ones among these messages
pub record SessionOrders : Type 0 where
  pub live : List (ℕ × Order)
  pub oddities : Oddities

abbrev pub session_orders_after : List ℕ → SessionOrders → OrderEvent → SessionOrders
session_orders_after keys before event = record {
  live = orders_after keys before.live event;
  oddities = oddities_after before.oddities (oddity_of keys before.live event);
}

abbrev pub session_orders_of : List ℕ → List OrderEvent → SessionOrders
session_orders_of keys events =
    fold (λ before event. session_orders_after keys before event)
    (record { live = []; oddities = no_oddities }) events

-- a symbol's place is this one
abbrev pub is_place : Option ℕ → ℕ → Bool
is_place None place = false
is_place (Some found) place = found == place

-- a symbol's round lot: the last one of its directory that isn't 0, 100 where none came
abbrev pub lot_after : List ℕ → ℕ → ℕ → OrderEvent → ℕ
lot_after keys place lot (RoundLot symbol shares locate) =
    if is_place (place_among keys symbol) place && not (shares == 0) then shares else lot
lot_after keys place lot (Add order) = lot
lot_after keys place lot (Reduce reference shares) = lot
lot_after keys place lot (Delete reference) = lot
lot_after keys place lot (Replace other) = lot
lot_after keys place lot (Halt symbol kind halted locate) = lot
lot_after keys place lot Other = lot

abbrev pub lot_of : List ℕ → ℕ → List OrderEvent → ℕ
lot_of keys place events = fold (λ lot event. lot_after keys place lot event) 100 events

abbrev pub is_same_kind : HaltKind → HaltKind → Bool
is_same_kind Trading Trading = true
is_same_kind Trading Operational = false
is_same_kind Operational Trading = false
is_same_kind Operational Operational = true

-- whether a kind of halt holds of a symbol: by the last message of that kind, no where none came
abbrev pub halt_after : List ℕ → ℕ → HaltKind → Bool → OrderEvent → Bool
halt_after keys place kind halted (Halt symbol other now locate) =
    if is_place (place_among keys symbol) place && is_same_kind other kind then now else halted
halt_after keys place kind halted (Add order) = halted
halt_after keys place kind halted (Reduce reference shares) = halted
halt_after keys place kind halted (Delete reference) = halted
halt_after keys place kind halted (Replace other) = halted
halt_after keys place kind halted (RoundLot symbol shares locate) = halted
halt_after keys place kind halted Other = halted

abbrev pub halt_of : List ℕ → ℕ → HaltKind → List OrderEvent → Bool
halt_of keys place kind events =
    fold (λ halted event. halt_after keys place kind halted event) false events

-- a price and a size are the best of a book side
pub record ShowsBest (orders : List (ℕ × Order)) (side lot price size : ℕ) : Type 0 where
  pub best : Option Level
  pub is_best : IsBestOf lot (depth orders side) best
  pub price_is : price ≡ shown_price side best
  pub size_is : size ≡ shown_size best

-- a symbol's row is what the messages make of it
pub record FitsRow (keys : List ℕ) (events : List OrderEvent) (place : ℕ) (row : SymbolRow)
    : Type 0 where
  pub symbol : key_of row.quote.symbol ≡ slice_index_or keys place 0
  pub bid : ShowsBest (session_orders_of keys events).live (book_side place Bid) row.lot
      row.quote.bid_price row.quote.bid_size
  pub offer : ShowsBest (session_orders_of keys events).live (book_side place Offer) row.lot
      row.quote.offer_price row.quote.offer_size
  pub lot : row.lot ≡ lot_of keys place events
  pub trading : row.trading_halt ≡ halt_of keys place Trading events
  pub operational : row.operational_halt ≡ halt_of keys place Operational events
  pub automated : (row.quote.bid_auto ≡ true) × (row.quote.offer_auto ≡ true)

-- the symbols by their keys, the table of orders, the symbols' rows, and the numbers of odd
-- messages
pub record OrderBookState : Type 0 where
  pub keys : List ℕ
  pub table : List (ℕ × Order)
  pub rows : List SymbolRow
  pub oddities : Oddities

-- the book is what these messages make
pub record FitsEvents (book : OrderBookState) (events : List OrderEvent) : Type 0 where
  pub orders : Holds book.table (session_orders_of book.keys events).live
  pub oddities : book.oddities ≡ (session_orders_of book.keys events).oddities
  pub rows : (place : ℕ) (d : SymbolRow) → place < length book.keys
      → FitsRow book.keys events place (slice_index_or book.rows place d)

-- of all symbols a message told this, of the one at a place
pub record TellsOfOne (old new : List SymbolRow) (item : Item) : Type 0 where
  pub place : ℕ
  pub told : (d : SymbolRow)
      → Tells (slice_index_or old place d) (slice_index_or new place d) item
  pub others : (other : ℕ) (d : SymbolRow) → (other ≡ place → ⊥)
      → slice_index_or new other d ≡ slice_index_or old other d
