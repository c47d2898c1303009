-- What is odd about a message, by the live orders before it.
use Rattle.std.specs.Prelude.{ℕ, ◌==◌, nat_lt, List, Option, Some, None, if◌then◌else◌}
use Rattle.feed_types.specs.FullCounts.{count_after}
use Rattle.itch_messages.specs.declared.event.OrderEvent.{OrderEvent}
use Rattle.itch_messages.specs.declared.event.OrderEvent.TheVariants.{Add, Reduce, Delete, Replace, RoundLot, Halt, Other}
use Rattle.itch_book.specs.declared.order.Order.{Order}
use Rattle.itch_book.specs.declared.oddity.Oddity.{Oddity}
use Rattle.itch_book.specs.declared.oddity.Oddity.TheVariants.{LiveReference, NoShares, UnknownOrder, TooManyShares}
use Rattle.itch_book.specs.declared.oddity.Oddities.{Oddities}
use Rattle.itch_book.specs.Orders.{live_order, place_among, without_order}

-- of a new order: one of its reference is there, or it has no shares
abbrev pub add_oddity : Option Order → ℕ → Option Oddity
add_oddity (Some there) shares = Some LiveReference
add_oddity None shares = if shares == 0 then Some NoShares else None

-- of a new order, if its symbol has a place
abbrev pub placed_oddity : Option ℕ → Option Order → ℕ → Option Oddity
placed_oddity None there shares = None
placed_oddity (Some place) there shares = add_oddity there shares

-- of shares that are gone from an order
abbrev pub less_oddity : Option Order → ℕ → Option Oddity
less_oddity None shares = Some UnknownOrder
less_oddity (Some order) shares = if nat_lt order.shares shares then Some TooManyShares else None

-- of an order that is gone
abbrev pub gone_oddity : Option Order → Option Oddity
gone_oddity None = Some UnknownOrder
gone_oddity (Some order) = None

-- of an order in the place of another
abbrev pub other_oddity : Option Order → Option Order → ℕ → Option Oddity
other_oddity None there shares = Some UnknownOrder
other_oddity (Some order) there shares = add_oddity there shares

abbrev pub oddity_of : List ℕ → List (ℕ × Order) → OrderEvent → Option Oddity
oddity_of keys orders (Add order) =
    placed_oddity (place_among keys order.symbol) (live_order orders order.reference) order.shares
oddity_of keys orders (Reduce reference shares) =
    less_oddity (live_order orders reference) shares
oddity_of keys orders (Delete reference) = gone_oddity (live_order orders reference)
oddity_of keys orders (Replace other) =
    other_oddity (live_order orders other.reference)
    (live_order (without_order other.reference orders) other.new_reference) other.shares
oddity_of keys orders (RoundLot symbol shares locate) = None
oddity_of keys orders (Halt symbol kind halted locate) = None
oddity_of keys orders Other = None

-- the numbers of odd messages after one more
abbrev pub oddities_after : Oddities → Option Oddity → Oddities
oddities_after before None = before
oddities_after before (Some LiveReference) =
    record before { live_references = count_after before.live_references 1 }
oddities_after before (Some NoShares) =
    record before { without_shares = count_after before.without_shares 1 }
oddities_after before (Some UnknownOrder) =
    record before { unknown_orders = count_after before.unknown_orders 1 }
oddities_after before (Some TooManyShares) =
    record before { too_many_shares = count_after before.too_many_shares 1 }

abbrev pub no_oddities : Oddities
no_oddities = record {
  live_references = 0;
  without_shares = 0;
  unknown_orders = 0;
  too_many_shares = 0;
}
