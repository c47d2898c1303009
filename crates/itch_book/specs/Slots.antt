-- The places of the orders, in buckets of four. Cited by private clauses alone.
use Rattle.std.specs.Prelude.{◌≡◌, ℕ, ◌+◌, ◌-◌, ◌*◌, ◌/◌, ◌<◌, ◌≤◌, ◌==◌, nat_eq, nat_le, bit_and, List, [], ◌∷◌, ◌++◌, length, slice_index_or, sum_by, Option, Some, None, if◌then◌else◌}
use Rattle.std.specs.Map.{keys_of, values_of}
use Rattle.std.specs.Option.{option_map, unwrap_or}
use Rattle.itch_book.specs.declared.order.Order.{Order}
use Rattle.itch_book.specs.declared.slot.Slot.{Slot}
use Rattle.itch_book.specs.Orders.{live_order}

-- the bucket of a reference: its low bits
abbrev pub bucket_of : ℕ → ℕ → ℕ
bucket_of mask reference = bit_and reference mask

-- a place has the order of a reference
pub record IsHeldAt (slots : List Slot) (place reference : ℕ) : Type 0 where
  pub below : place < length slots
  pub reference_is : (d : Slot) → (slice_index_or slots place d).reference ≡ reference
  pub live : (d : Slot) → (slice_index_or slots place d).order.shares ≡ 0 → ⊥

-- a place has none
pub record IsFreeAt (slots : List Slot) (place : ℕ) : Type 0 where
  pub below : place < length slots
  pub free : (d : Slot) → (slice_index_or slots place d).order.shares ≡ 0

-- each order that has a place has one of its bucket
abbrev pub AreHome : ℕ → List Slot → Type 0
AreHome mask slots = (place reference : ℕ) → IsHeldAt slots place reference
    → place / 4 ≡ bucket_of mask reference

-- the orders that have places
abbrev pub slot_orders : List Slot → List (ℕ × Order)
slot_orders [] = []
slot_orders (slot ∷ slots) =
    if slot.order.shares == 0 then slot_orders slots
    else (slot.reference, slot.order) ∷ slot_orders slots

-- with those that have none
abbrev pub stored_orders : List Slot → List (ℕ × Order) → List (ℕ × Order)
stored_orders slots beyond = slot_orders slots ++ beyond

-- 1 for a reference of a bucket
abbrev pub is_of_bucket : ℕ → ℕ → ℕ → ℕ
is_of_bucket mask bucket reference = if bucket_of mask reference == bucket then 1 else 0

-- The places, and the orders for which their buckets have none: each order is there once, and the
-- first place of a bucket has the number of those that are beyond it.
pub record AreStored (mask : ℕ) (slots : List Slot) (beyond : List (ℕ × Order)) : Type 0 where
  pub whole : length slots ≡ (mask + 1) * 4
  pub home : AreHome mask slots
  pub once : (one other reference : ℕ) → IsHeldAt slots one reference
      → IsHeldAt slots other reference → one ≡ other
  pub apart : (place reference : ℕ) → IsHeldAt slots place reference
      → live_order beyond reference ≡ None
  pub counted : (bucket : ℕ) (d : Slot) → bucket ≤ mask
      → (slice_index_or slots (bucket * 4) d).beyond
      ≡ sum_by (is_of_bucket mask bucket) (keys_of beyond)

-- a place whose order has these shares less
abbrev pub reduced_slot : ℕ → Slot → Slot
reduced_slot shares slot =
    record slot { order = record slot.order { shares = slot.order.shares - shares } }

-- a bucket's first place, with the number of its orders that have none
abbrev pub with_beyond : ℕ → Slot → Slot
with_beyond beyond slot = record slot { beyond = beyond }

-- what is left of an order of which these shares are gone
abbrev pub order_left : Option Order → ℕ → Option Order
order_left None shares = None
order_left (Some order) shares =
    if nat_le order.shares shares then None
    else Some (record order { shares = order.shares - shares })

-- f of an order, 0 of none
abbrev pub weight : (Order → ℕ) → Option Order → ℕ
weight f order = unwrap_or (option_map f order) 0

-- one more order is in
pub record IsPut (reference : ℕ) (order : Order) (old new : List (ℕ × Order)) : Type 0 where
  pub orders : (other : ℕ) → live_order new other
      ≡ (if nat_eq reference other then Some order else live_order old other)
  pub sums : (f : Order → ℕ) → sum_by f (values_of new) ≡ sum_by f (values_of old) + f order

-- these shares of an order are gone, and where none is left the order
pub record IsReduced (reference shares : ℕ) (old new : List (ℕ × Order)) : Type 0 where
  pub orders : (other : ℕ) → live_order new other
      ≡ (if nat_eq reference other then order_left (live_order old reference) shares
      else live_order old other)
  pub sums : (f : Order → ℕ) → sum_by f (values_of new) + weight f (live_order old reference)
      ≡ sum_by f (values_of old) + weight f (order_left (live_order old reference) shares)
