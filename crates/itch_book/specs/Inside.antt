-- The inside of the orders that are kept. Cited by private clauses alone.
use Rattle.std.specs.Prelude.{◌≡◌, ℕ, ◌+◌, ◌*◌, ◌/◌, ◌<◌, nat_eq, Bool, true, false, List, length, slice_index_or, slice_set, sum_by, Option, Some}
use Rattle.std.specs.List.{IsDistinct}
use Rattle.std.specs.Map.{keys_of, values_of}
use Rattle.itch_messages.specs.declared.event.HaltKind.{HaltKind}
use Rattle.itch_book.specs.declared.level.Level.{Level}
use Rattle.itch_book.specs.declared.order.Order.{Order}
use Rattle.itch_book.specs.declared.row.SymbolRow.{SymbolRow}
use Rattle.itch_book.specs.Bests.{IsBestOf, depth}
use Rattle.itch_book.specs.Levels.{level_depth}
use Rattle.itch_book.specs.Orders.{live_order}
use Rattle.itch_book.specs.Rows.{showing, with_halt, with_lot}

-- A table holds these orders, in any order: the same at each reference, and sums over them are the
-- same.
pub record Holds (table orders : List (ℕ × Order)) : Type 0 where
  pub each : (reference : ℕ) → live_order table reference ≡ live_order orders reference
  pub sums : (f : Order → ℕ) → sum_by f (values_of table) ≡ sum_by f (values_of orders)
  pub distinct : IsDistinct nat_eq (keys_of orders)

-- the row of a symbol of which nothing is known
abbrev pub unknown_row : List ℕ → SymbolRow
unknown_row symbol = record {
  quote = record {
    symbol = symbol;
    bid_auto = true;
    offer_auto = true;
    bid_price = 0;
    bid_size = 0;
    offer_size = 0;
    offer_price = 0;
  };
  lot = 100;
  trading_halt = false;
  operational_halt = false;
}

-- the row of a book side's symbol shows its best, and the other rows are the same
pub record IsSideShown (table : List (ℕ × Order)) (side : ℕ) (old new : List SymbolRow)
    : Type 0 where
  pub best : Option Level
  pub is_best : (orders : List (ℕ × Order)) (d : SymbolRow) → Holds table orders
      → IsBestOf (slice_index_or old (side / 2) d).lot (depth orders side) best
  pub rows : (d : SymbolRow) → new ≡ slice_set old (side / 2)
      (showing side best (slice_index_or old (side / 2) d))

-- the row at a place has this lot, and shows the bests that it makes
pub record IsLotShown (table : List (ℕ × Order)) (place lot : ℕ) (old new : List SymbolRow)
    : Type 0 where
  pub bid : Option Level
  pub offer : Option Level
  pub is_bid : (orders : List (ℕ × Order)) → Holds table orders
      → IsBestOf lot (depth orders (place * 2)) bid
  pub is_offer : (orders : List (ℕ × Order)) → Holds table orders
      → IsBestOf lot (depth orders (place * 2 + 1)) offer
  pub rows : (d : SymbolRow) → new ≡ slice_set old place (showing (place * 2 + 1) offer
      (showing (place * 2) bid (with_lot lot (slice_index_or old place d))))

-- the row at a place has this state of a kind of halt
abbrev pub IsHaltShown : ℕ → HaltKind → Bool → List SymbolRow → List SymbolRow → Type 0
IsHaltShown place kind halted old new = (d : SymbolRow)
    → new ≡ slice_set old place (with_halt kind halted (slice_index_or old place d))

-- the table of orders, and the levels of each book side
pub record OrdersState : Type 0 where
  pub table : List (ℕ × Order)
  pub sides : List (List Level)

-- the levels of each side are those of the orders, and each order is of one of the sides
pub record AreKept (s : OrdersState) : Type 0 where
  pub within : (reference : ℕ) (order : Order) → live_order s.table reference ≡ Some order
      → order.side < length s.sides
  pub levels : (side : ℕ) (d : List Level) (rank : ℕ) → side < length s.sides
      → level_depth (slice_index_or s.sides side d) rank ≡ depth s.table side rank
