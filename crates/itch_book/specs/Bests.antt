-- The protected side of a symbol: the best price at which the shares displayed there and at better
-- prices reach a round lot, and those shares in whole round lots. So a round lot at one price
-- counts there, and odd lots are put together at the least aggressive of their prices. A greater
-- rank is a better price.
use Rattle.std.specs.Prelude.{◌≡◌, ℕ, ◌-◌, ◌%◌, ◌<◌, ◌≤◌, ◌==◌, ◌&&◌, nat_le, List, sum_by, Option, MatchOption, if◌then◌else◌}
use Rattle.std.specs.Map.{values_of}
use Rattle.itch_book.specs.declared.level.Level.{Level}
use Rattle.itch_book.specs.declared.order.Order.{Order}

-- an order's shares, where it is of this book side, at this rank or a better one
abbrev pub order_shares : ℕ → ℕ → Order → ℕ
order_shares side rank order =
    if (order.side == side) && nat_le rank order.rank then order.shares else 0

-- how many shares the orders show on a book side, at a rank and all better ones
abbrev pub depth : List (ℕ × Order) → ℕ → ℕ → ℕ
depth orders side rank = sum_by (order_shares side rank) (values_of orders)

-- shares in whole round lots
abbrev pub whole_lots : ℕ → ℕ → ℕ
whole_lots lot shares = shares - shares % lot

-- the best rank down to which there is a round lot, by how many shares there are down to each
pub record IsBestLevel (lot : ℕ) (depth : ℕ → ℕ) (level : Level) : Type 0 where
  pub reaches : lot ≤ depth level.rank
  pub best : (rank : ℕ) → level.rank < rank → depth rank < lot
  pub shares : level.shares ≡ whole_lots lot (depth level.rank)

-- the best, or none where all orders together show less than a round lot
abbrev pub IsBestOf : ℕ → (ℕ → ℕ) → Option Level → Type 0
IsBestOf lot depth best = MatchOption best ((rank : ℕ) → depth rank < lot) (IsBestLevel lot depth)
