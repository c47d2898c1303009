-- What was written reads back. All fields but the symbol are lists of known length, so that their
-- offsets compute; the symbol is eight bytes by its rule.
use Rattle.std.proofs.Common.{◌≡◌, ℕ, ◌+◌, ◌<◌, ◌^◌, Bool, true, false, List, [], ◌∷◌, ◌++◌, length, take, drop, get_or, replicate, refl, sym, ap, ◌∙◌, arith, length-append, append_assoc, eqb-true}
use Rattle.std.specs.Prelude.{if◌then◌else◌, ◌==◌, ◌&&◌, Some}
use Rattle.std.specs.Int.{w16, w32, w64, to_be_bytes, from_be_bytes}
use Rattle.std.specs.List.{list_all}
use Rattle.std.proofs.lemmas.Nat.{from_be_bytes-to_be_bytes_2, from_be_bytes-to_be_bytes_4, from_be_bytes-to_be_bytes_8}
use Rattle.std.proofs.lemmas.List.{take_at, drop_at, drop-drop, get_or-drop}
use Rattle.std.proofs.lemmas.Bool.{and_parts}
use Rattle.feed_types.specs.Symbols.{is_symbol_field, is_symbol_name, name_of, filling_of, is_space}
use Rattle.feed_types.specs.declared.line.Side.{Side}
use Rattle.feed_types.specs.declared.line.Side.TheVariants.{Bid, Offer}
use Rattle.itch_messages.specs.declared.event.HaltKind.TheVariants.{Trading, Operational}
use Rattle.itch_messages.specs.declared.event.NewOrder.{NewOrder}
use Rattle.itch_messages.specs.declared.event.Replacement.{Replacement}
use Rattle.itch_messages.specs.declared.event.OrderEvent.{OrderEvent}
use Rattle.itch_messages.specs.declared.event.OrderEvent.TheVariants as event
use Rattle.itch_messages.specs.Events.{add_of, added_on, event_by, order_event_of, halt_on, halted_by_action, halted_by_state, side_of_byte}
use Rattle.itch_messages.specs.Encoded.{IsInRange, delete_bytes, halt_byte, head_bytes, less_bytes, order_bytes, replacement_bytes, side_byte, symbol_bytes}

-- ---- forms without a symbol

pub order_event_of-delete : (locate reference : ℕ) → reference < 2 ^ 64
    → order_event_of (delete_bytes locate reference) ≡ event.Delete reference
unfolding order_event_of
order_event_of-delete locate reference r = ap event.Delete (from_be_bytes-to_be_bytes_8 reference r)

less : (reference shares : ℕ) → reference < 2 ^ 64 → shares < 2 ^ 32
    → event.Reduce (from_be_bytes w64 (to_be_bytes w64 reference))
    (from_be_bytes w32 (to_be_bytes w32 shares)) ≡ event.Reduce reference shares
less reference shares r s =
    ap (λ (n : ℕ). event.Reduce n (from_be_bytes w32 (to_be_bytes w32 shares)))
    (from_be_bytes-to_be_bytes_8 reference r)
    ∙ ap (λ (n : ℕ). event.Reduce reference n) (from_be_bytes-to_be_bytes_4 shares s)

pub order_event_of-cancel : (locate reference shares : ℕ) → reference < 2 ^ 64 → shares < 2 ^ 32
    → order_event_of (less_bytes 0x58 locate reference shares) ≡ event.Reduce reference shares
unfolding order_event_of
order_event_of-cancel locate reference shares r s = less reference shares r s

pub order_event_of-executed : (locate reference shares : ℕ) → reference < 2 ^ 64 → shares < 2 ^ 32
    → order_event_of (less_bytes 0x45 locate reference shares ++ replicate 8 0)
    ≡ event.Reduce reference shares
unfolding order_event_of
order_event_of-executed locate reference shares r s = less reference shares r s

pub order_event_of-executed_at : (locate reference shares price : ℕ) → reference < 2 ^ 64
    → shares < 2 ^ 32
    → order_event_of (less_bytes 0x43 locate reference shares ++ replicate 8 0 ++ (0x59 ∷ [])
    ++ to_be_bytes w32 price) ≡ event.Reduce reference shares
unfolding order_event_of
order_event_of-executed_at locate reference shares price r s = less reference shares r s

replacement-eq : (x y : Replacement) → x.reference ≡ y.reference
    → x.new_reference ≡ y.new_reference → x.shares ≡ y.shares → x.price ≡ y.price → x ≡ y
replacement-eq x y a b c d = λ i. record {
  reference = a i;
  new_reference = b i;
  shares = c i;
  price = d i;
}

pub order_event_of-replace : (locate : ℕ) (other : Replacement) → other.reference < 2 ^ 64
    → other.new_reference < 2 ^ 64 → other.shares < 2 ^ 32 → other.price < 2 ^ 32
    → order_event_of (replacement_bytes locate other) ≡ event.Replace other
unfolding order_event_of
order_event_of-replace locate other r n s p =
    ap event.Replace (replacement-eq _ other
    (from_be_bytes-to_be_bytes_8 other.reference r)
    (from_be_bytes-to_be_bytes_8 other.new_reference n)
    (from_be_bytes-to_be_bytes_4 other.shares s)
    (from_be_bytes-to_be_bytes_4 other.price p))

-- ---- symbols

eight_bytes : (symbol : List ℕ) → is_symbol_field symbol ≡ true → length symbol ≡ 8
eight_bytes symbol good = eqb-true (length symbol) 8 (and_parts (length symbol == 8)
    (is_symbol_name (name_of symbol) && list_all is_space (filling_of symbol)) good).0

-- what follows the symbol
past_symbol : (symbol rest : List ℕ) (k : ℕ) → length symbol ≡ 8
    → drop (8 + k) (symbol ++ rest) ≡ drop k rest
past_symbol symbol rest k eight = sym (drop-drop k 8 (symbol ++ rest))
    ∙ ap (drop k) (drop_at symbol rest 8 eight)

byte_past_symbol : (symbol rest : List ℕ) (k : ℕ) → length symbol ≡ 8
    → get_or (symbol ++ rest) (8 + k) 0 ≡ get_or rest k 0
byte_past_symbol symbol rest k eight = sym (get_or-drop 8 (symbol ++ rest) k 0)
    ∙ ap (λ (x : List ℕ). get_or x k 0) (drop_at symbol rest 8 eight)

-- ---- new orders

side_back : (side : Side) → side_of_byte (side_byte side) ≡ Some side
side_back Bid = refl
side_back Offer = refl

new_order-eq : (x y : NewOrder) → x.symbol ≡ y.symbol → x.reference ≡ y.reference
    → x.shares ≡ y.shares → x.price ≡ y.price → x.locate ≡ y.locate → x.side ≡ y.side → x ≡ y
new_order-eq x y a b c d e f = λ i. record {
  symbol = a i;
  reference = b i;
  shares = c i;
  price = d i;
  locate = e i;
  side = f i;
}

-- the fields before the symbol, and then the symbol and what follows it
order_with : ℕ → NewOrder → List ℕ → List ℕ
order_with kind order rest =
    (head_bytes kind order.locate ++ to_be_bytes w64 order.reference ++ (side_byte order.side ∷ [])
    ++ to_be_bytes w32 order.shares) ++ (order.symbol ++ rest)

add_of-order : (kind : ℕ) (order : NewOrder) (rest : List ℕ) → IsInRange order
    → from_be_bytes w32 (take 4 rest) ≡ order.price
    → add_of (order_with kind order rest) ≡ event.Add order
unfolding order_with
add_of-order kind order rest ranges price =
    let message = order_with kind order rest in
    let eight = eight_bytes order.symbol ranges.symbol in
    let read : List ℕ → NewOrder = λ field. record {
      symbol = field;
      reference = from_be_bytes w64 (to_be_bytes w64 order.reference);
      shares = from_be_bytes w32 (to_be_bytes w32 order.shares);
      price = from_be_bytes w32 (take 4 (drop 8 (order.symbol ++ rest)));
      locate = from_be_bytes w16 (to_be_bytes w16 order.locate);
      side = order.side;
    } in
    ap (λ s. added_on s message) (side_back order.side)
    ∙ ap (λ (field : List ℕ). if is_symbol_field field then event.Add (read field)
    else event.Other) (take_at order.symbol rest 8 eight)
    ∙ ap (λ (b : Bool). if b then event.Add (read order.symbol) else event.Other) ranges.symbol
    ∙ ap event.Add (new_order-eq (read order.symbol) order refl
    (from_be_bytes-to_be_bytes_8 order.reference ranges.reference)
    (from_be_bytes-to_be_bytes_4 order.shares ranges.shares)
    (ap (λ (x : List ℕ). from_be_bytes w32 (take 4 x)) (past_symbol order.symbol rest 0 eight)
    ∙ price)
    (from_be_bytes-to_be_bytes_2 order.locate ranges.locate) refl)

order_len : (kind : ℕ) (order : NewOrder) (rest : List ℕ) → length order.symbol ≡ 8
    → length (order_with kind order rest) ≡ 32 + length rest
unfolding order_with
order_len kind order rest eight = omega (arith, length-append order.symbol rest)

pub order_event_of-add : (order : NewOrder) → IsInRange order
    → order_event_of (order_bytes 0x41 order) ≡ event.Add order
unfolding order_event_of order_with
order_event_of-add order ranges =
    let rest = to_be_bytes w32 order.price in
    ap (λ (n : ℕ). event_by 0x41 n (order_with 0x41 order rest))
    (order_len 0x41 order rest (eight_bytes order.symbol ranges.symbol))
    ∙ add_of-order 0x41 order rest ranges (from_be_bytes-to_be_bytes_4 order.price ranges.price)

pub order_event_of-attributed_add : (order : NewOrder) (attribution : List ℕ)
    → length attribution ≡ 4
    → IsInRange order → order_event_of (order_bytes 0x46 order ++ attribution) ≡ event.Add order
unfolding order_event_of order_with
order_event_of-attributed_add order attribution four ranges =
    let rest = to_be_bytes w32 order.price ++ attribution in
    let message = order_with 0x46 order rest in
    let price : length (to_be_bytes w32 order.price) ≡ 4 = refl in
    let front = head_bytes 0x46 order.locate ++ to_be_bytes w64 order.reference
    ++ (side_byte order.side ∷ []) ++ to_be_bytes w32 order.shares ++ order.symbol in
    let whole : order_bytes 0x46 order ++ attribution ≡ message =
    append_assoc front (to_be_bytes w32 order.price) attribution in
    let len : length message ≡ 40 = omega (
      arith,
      order_len 0x46 order rest (eight_bytes order.symbol ranges.symbol),
      length-append (to_be_bytes w32 order.price) attribution,
      price,
      four,
    ) in
    ap order_event_of whole ∙ ap (λ (n : ℕ). event_by 0x46 n message) len
    ∙ add_of-order 0x46 order rest ranges (from_be_bytes-to_be_bytes_4 order.price ranges.price)

-- ---- forms of a symbol

symbol_len : (kind locate : ℕ) (symbol rest : List ℕ) → length symbol ≡ 8
    → length (symbol_bytes kind locate symbol rest) ≡ 19 + length rest
symbol_len kind locate symbol rest eight = omega (arith, length-append symbol rest)

abbrev lot_rest : ℕ → List ℕ
lot_rest lot = replicate 2 0x20 ++ to_be_bytes w32 lot ++ replicate 14 0x20

pub order_event_of-directory : (locate lot : ℕ) (symbol : List ℕ) → is_symbol_field symbol ≡ true
    → lot < 2 ^ 32 → locate < 2 ^ 16
    → order_event_of (symbol_bytes 0x52 locate symbol (lot_rest lot))
    ≡ event.RoundLot symbol lot locate
unfolding order_event_of
order_event_of-directory locate lot symbol good small l =
    let rest = lot_rest lot in
    let eight = eight_bytes symbol good in
    let message = symbol_bytes 0x52 locate symbol rest in
    let read : List ℕ → OrderEvent = λ field. event.RoundLot field
    (from_be_bytes w32 (take 4 (drop 10 (symbol ++ rest))))
    (from_be_bytes w16 (to_be_bytes w16 locate)) in
    ap (λ (n : ℕ). event_by 0x52 n message) (symbol_len 0x52 locate symbol rest eight)
    ∙ ap (λ (field : List ℕ). if is_symbol_field field then read field else event.Other)
    (take_at symbol rest 8 eight)
    ∙ ap (λ (b : Bool). if b then read symbol else event.Other) good
    ∙ ap (λ (x : List ℕ). event.RoundLot symbol (from_be_bytes w32 (take 4 x))
    (from_be_bytes w16 (to_be_bytes w16 locate))) (past_symbol symbol rest 2 eight)
    ∙ ap (λ (n : ℕ). event.RoundLot symbol n (from_be_bytes w16 (to_be_bytes w16 locate)))
    (from_be_bytes-to_be_bytes_4 lot small)
    ∙ ap (event.RoundLot symbol lot) (from_be_bytes-to_be_bytes_2 locate l)

state_back : (halted : Bool) → halted_by_state (halt_byte halted) ≡ Some halted
state_back true = refl
state_back false = refl

action_back : (halted : Bool) → halted_by_action (halt_byte halted) ≡ Some halted
action_back true = refl
action_back false = refl

abbrev state_rest : Bool → List ℕ
state_rest halted = (halt_byte halted ∷ []) ++ replicate 5 0x20

pub order_event_of-trading_action : (locate : ℕ) (symbol : List ℕ) (halted : Bool)
    → is_symbol_field symbol ≡ true → locate < 2 ^ 16
    → order_event_of (symbol_bytes 0x48 locate symbol (state_rest halted))
    ≡ event.Halt symbol Trading halted locate
unfolding order_event_of
order_event_of-trading_action locate symbol halted good l =
    let rest = state_rest halted in
    let eight = eight_bytes symbol good in
    let message = symbol_bytes 0x48 locate symbol rest in
    let read : List ℕ → OrderEvent = λ field. event.Halt field Trading halted
    (from_be_bytes w16 (to_be_bytes w16 locate)) in
    ap (λ (n : ℕ). event_by 0x48 n message) (symbol_len 0x48 locate symbol rest eight)
    ∙ ap (λ (n : ℕ). halt_on Trading (halted_by_state n) message)
    (byte_past_symbol symbol rest 0 eight)
    ∙ ap (λ s. halt_on Trading s message) (state_back halted)
    ∙ ap (λ (field : List ℕ). if is_symbol_field field then read field else event.Other)
    (take_at symbol rest 8 eight)
    ∙ ap (λ (b : Bool). if b then read symbol else event.Other) good
    ∙ ap (event.Halt symbol Trading halted) (from_be_bytes-to_be_bytes_2 locate l)

pub order_event_of-operational_halt : (locate : ℕ) (symbol : List ℕ) (halted : Bool)
    → is_symbol_field symbol ≡ true → locate < 2 ^ 16
    → order_event_of (symbol_bytes 0x68 locate symbol (0x51 ∷ halt_byte halted ∷ []))
    ≡ event.Halt symbol Operational halted locate
unfolding order_event_of
order_event_of-operational_halt locate symbol halted good l =
    let rest = 0x51 ∷ halt_byte halted ∷ [] in
    let eight = eight_bytes symbol good in
    let message = symbol_bytes 0x68 locate symbol rest in
    let read : List ℕ → OrderEvent = λ field. event.Halt field Operational halted
    (from_be_bytes w16 (to_be_bytes w16 locate)) in
    ap (λ (n : ℕ). event_by 0x68 n message) (symbol_len 0x68 locate symbol rest eight)
    ∙ ap (λ (n : ℕ). halt_on Operational (halted_by_action n) message)
    (byte_past_symbol symbol rest 1 eight)
    ∙ ap (λ s. halt_on Operational s message) (action_back halted)
    ∙ ap (λ (field : List ℕ). if is_symbol_field field then read field else event.Other)
    (take_at symbol rest 8 eight)
    ∙ ap (λ (b : Bool). if b then read symbol else event.Other) good
    ∙ ap (event.Halt symbol Operational halted) (from_be_bytes-to_be_bytes_2 locate l)
