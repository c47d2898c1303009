-- The bytes of the forms as this project writes them: without a tracking number and a time, and
-- with 0 or spaces in the fields that no event has.
use Rattle.std.specs.Prelude.{◌≡◌, ℕ, ◌<◌, ◌^◌, Bool, true, if◌then◌else◌, List, [], ◌∷◌, ◌++◌, replicate}
use Rattle.std.specs.Int.{w16, w32, w64, to_be_bytes}
use Rattle.feed_types.specs.Symbols.{is_symbol_field}
use Rattle.feed_types.specs.declared.line.Side.{Side}
use Rattle.feed_types.specs.declared.line.Side.TheVariants.{Bid, Offer}
use Rattle.itch_messages.specs.declared.event.NewOrder.{NewOrder}
use Rattle.itch_messages.specs.declared.event.Replacement.{Replacement}

-- the ranges of a new order's fields, which their types have
pub record IsInRange (order : NewOrder) : Type 0 where
  pub symbol : is_symbol_field order.symbol ≡ true
  pub reference : order.reference < 2 ^ 64
  pub shares : order.shares < 2 ^ 32
  pub price : order.price < 2 ^ 32
  pub locate : order.locate < 2 ^ 16

-- what each form begins with: its type, the locate, a tracking number of 2 bytes and a time of 6
abbrev pub head_bytes : ℕ → ℕ → List ℕ
head_bytes kind locate = (kind ∷ []) ++ to_be_bytes w16 locate ++ replicate 8 0

abbrev pub side_byte : Side → ℕ
side_byte Bid = 0x42
side_byte Offer = 0x53

-- H where the symbol is halted, T where it trades
abbrev pub halt_byte : Bool → ℕ
halt_byte halted = if halted then 0x48 else 0x54

-- a new order: type A, or the front of type F
abbrev pub order_bytes : ℕ → NewOrder → List ℕ
order_bytes kind order =
    head_bytes kind order.locate ++ to_be_bytes w64 order.reference ++ (side_byte order.side ∷ [])
    ++ to_be_bytes w32 order.shares ++ order.symbol ++ to_be_bytes w32 order.price

-- these shares of an order are gone: type X, or the front of types E and C
abbrev pub less_bytes : ℕ → ℕ → ℕ → ℕ → List ℕ
less_bytes kind locate reference shares =
    head_bytes kind locate ++ to_be_bytes w64 reference ++ to_be_bytes w32 shares

abbrev pub delete_bytes : ℕ → ℕ → List ℕ
delete_bytes locate reference = head_bytes 0x44 locate ++ to_be_bytes w64 reference

abbrev pub replacement_bytes : ℕ → Replacement → List ℕ
replacement_bytes locate other =
    head_bytes 0x55 locate ++ to_be_bytes w64 other.reference
    ++ to_be_bytes w64 other.new_reference ++ to_be_bytes w32 other.shares
    ++ to_be_bytes w32 other.price

-- a form of a symbol, with this after it
abbrev pub symbol_bytes : ℕ → ℕ → List ℕ → List ℕ → List ℕ
symbol_bytes kind locate symbol rest = head_bytes kind locate ++ symbol ++ rest
