-- The live orders of a venue, as a fold over its session's messages: by their references, the last
-- one first. A list of keys are the symbols of the book; orders of other symbols aren't kept.
use Rattle.std.specs.Prelude.{ℕ, ◌+◌, ◌*◌, ◌-◌, ◌%◌, ◌==◌, nat_eq, nat_le, is_some, Bool, true, false, position, List, ◌∷◌, Option, Some, None, if◌then◌else◌}
use Rattle.std.specs.Map.{lookup, remove_entry, set_value}
use Rattle.feed_types.specs.Symbols.{key_of}
use Rattle.feed_types.specs.declared.line.Side.{Side}
use Rattle.feed_types.specs.declared.line.Side.TheVariants.{Bid, Offer}
use Rattle.itch_messages.specs.declared.event.NewOrder.{NewOrder}
use Rattle.itch_messages.specs.declared.event.Replacement.{Replacement}
use Rattle.itch_messages.specs.declared.event.OrderEvent.{OrderEvent}
use Rattle.itch_messages.specs.declared.event.OrderEvent.TheVariants.{Add, Reduce, Delete, Replace, RoundLot, Halt, Other}
use Rattle.itch_book.specs.declared.order.Order.{Order}

-- where a symbol is among the book's, if it is one of them
abbrev pub place_among : List ℕ → List ℕ → Option ℕ
place_among keys symbol = position (nat_eq (key_of symbol)) keys

-- a symbol's side by number: of the symbol at a place the bids, or the offers
abbrev pub book_side : ℕ → Side → ℕ
book_side place Bid = place * 2
book_side place Offer = place * 2 + 1

-- A price's rank on a book side, so that a better price ranks higher: of bids, which have even
-- numbers, the price itself, of offers what is left up to the greatest price. A rank's price
-- likewise.
abbrev pub book_rank : ℕ → ℕ → ℕ
book_rank side price = if side % 2 == 0 then price else 4294967295 - price

-- the live order of this reference
abbrev pub live_order : List (ℕ × Order) → ℕ → Option Order
live_order orders reference = lookup (nat_eq reference) orders

-- with one more order, unless there is one of its reference, or it has no shares
abbrev pub with_order : ℕ → Order → List (ℕ × Order) → List (ℕ × Order)
with_order reference order orders =
    if is_some (live_order orders reference) then orders
    else (if order.shares == 0 then orders else (reference, order) ∷ orders)

-- with an order that a message adds, whose symbol is at this place
abbrev pub with_added : Option ℕ → NewOrder → List (ℕ × Order) → List (ℕ × Order)
with_added None order orders = orders
with_added (Some place) order orders =
    with_order order.reference (record {
      side = book_side place order.side;
      rank = book_rank (book_side place order.side) order.price;
      shares = order.shares;
    }) orders

-- without the order of a reference
abbrev pub without_order : ℕ → List (ℕ × Order) → List (ℕ × Order)
without_order reference orders = remove_entry (nat_eq reference) orders

-- these shares of it are gone, and where none is left the order
abbrev pub reduced_from : Option Order → ℕ → ℕ → List (ℕ × Order) → List (ℕ × Order)
reduced_from None reference shares orders = orders
reduced_from (Some order) reference shares orders =
    if nat_le order.shares shares then without_order reference orders
    else set_value (nat_eq reference) orders (record order { shares = order.shares - shares })

abbrev pub with_less : ℕ → ℕ → List (ℕ × Order) → List (ℕ × Order)
with_less reference shares orders =
    reduced_from (live_order orders reference) reference shares orders

-- it is out, and another of the same symbol and side is there, of its own reference, with its own
-- shares at its own price
abbrev pub replaced_from : Option Order → Replacement → List (ℕ × Order) → List (ℕ × Order)
replaced_from None other orders = orders
replaced_from (Some order) other orders =
    with_order other.new_reference (record {
      side = order.side;
      rank = book_rank order.side other.price;
      shares = other.shares;
    }) (without_order other.reference orders)

abbrev pub with_other : Replacement → List (ℕ × Order) → List (ℕ × Order)
with_other other orders = replaced_from (live_order orders other.reference) other orders

-- the live orders after one more message
abbrev pub orders_after : List ℕ → List (ℕ × Order) → OrderEvent → List (ℕ × Order)
orders_after keys orders (Add order) =
    with_added (place_among keys order.symbol) order orders
orders_after keys orders (Reduce reference shares) = with_less reference shares orders
orders_after keys orders (Delete reference) = without_order reference orders
orders_after keys orders (Replace other) = with_other other orders
orders_after keys orders (RoundLot symbol shares locate) = orders
orders_after keys orders (Halt symbol kind halted locate) = orders
orders_after keys orders Other = orders

-- a message that may bring an order in
abbrev pub brings_order : OrderEvent → Bool
brings_order (Add order) = true
brings_order (Replace other) = true
brings_order (Reduce reference shares) = false
brings_order (Delete reference) = false
brings_order (RoundLot symbol shares locate) = false
brings_order (Halt symbol kind halted locate) = false
brings_order Other = false
