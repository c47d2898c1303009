-- What was written reads back: the fields after the symbol are at their offsets, and the tests of
-- the form hold.
use Rattle.std.proofs.Common.{◌≡◌, ℕ, ◌+◌, ◌<◌, ◌^◌, Bool, true, false, ◌&&◌, not, List, [], ◌∷◌, ◌++◌, length, take, drop, get_or, refl, sym, ap, ◌∙◌, arith, length-append, append_assoc, eq-eqb, eqb-true}
use Rattle.std.specs.Prelude.{if◌then◌else◌, ◌==◌, nat_le, bit_or, bit_and}
use Rattle.std.specs.Int.{w32, w64, to_be_bytes, from_be_bytes}
use Rattle.std.proofs.lemmas.Nat.{from_be_bytes-to_be_bytes_4, from_be_bytes-to_be_bytes_8}
use Rattle.std.proofs.lemmas.List.{take_at, drop_at, drop-drop, get_or-drop}
use Rattle.std.specs.List.{list_all}
use Rattle.std.proofs.lemmas.Bool.{and_parts}
use Rattle.feed_types.specs.Symbols.{is_symbol_field, is_symbol_name, name_of, filling_of, is_space}
use Rattle.feed_types.specs.declared.item.Quote.{Quote}
use Rattle.feed_types.specs.declared.item.Item.TheVariants as item
use Rattle.quote_payload.specs.Payload.{symbol_at, has_form, version1_of, is_version2, version2_of, is_halt, state_at, item_of}
use Rattle.quote_payload.specs.Written.{flags_of, version1_bytes, version2_bytes, halt_bytes}

-- what follows the symbol
past_symbol : (symbol rest : List ℕ) (k : ℕ) → length symbol ≡ 8
    → drop (8 + k) (symbol ++ rest) ≡ drop k rest
past_symbol symbol rest k eight = sym (drop-drop k 8 (symbol ++ rest))
    ∙ ap (drop k) (drop_at symbol rest 8 eight)

byte_past_symbol : (symbol rest : List ℕ) (k : ℕ) → length symbol ≡ 8
    → get_or (symbol ++ rest) (8 + k) 0 ≡ get_or rest k 0
byte_past_symbol symbol rest k eight = sym (get_or-drop 8 (symbol ++ rest) k 0)
    ∙ ap (λ (x : List ℕ). get_or x k 0) (drop_at symbol rest 8 eight)

all_three : (a b c : Bool) → a ≡ true → b ≡ true → c ≡ true → a && (b && c) ≡ true
all_three a b c p q r = ap (λ (x : Bool). x && (b && c)) p ∙ ap (λ (x : Bool). x && c) q ∙ r

has_form-is : (kind size : ℕ) (symbol rest : List ℕ) → length symbol ≡ 8
    → is_symbol_field symbol ≡ true → 9 + length rest ≡ size
    → has_form kind size (kind ∷ (symbol ++ rest)) ≡ true
has_form-is kind size symbol rest eight good len =
    all_three (kind == kind) (length (kind ∷ (symbol ++ rest)) == size)
    (is_symbol_field (take 8 (symbol ++ rest)))
    (eq-eqb kind kind refl)
    (eq-eqb (length (kind ∷ (symbol ++ rest))) size (omega (arith, length-append symbol rest)))
    (ap is_symbol_field (take_at symbol rest 8 eight) ∙ good)

eight_bytes : (symbol : List ℕ) → is_symbol_field symbol ≡ true → length symbol ≡ 8
eight_bytes symbol good = eqb-true (length symbol) 8 (and_parts (length symbol == 8)
    (is_symbol_name (name_of symbol) && list_all is_space (filling_of symbol)) good).0

-- the flags that are written are the flags that are read
bid_flag : (bid offer : Bool)
    → not (bit_and (bit_or (if bid then 1 else 0) (if offer then 2 else 0)) 1 == 0) ≡ bid
bid_flag true true = refl
bid_flag true false = refl
bid_flag false true = refl
bid_flag false false = refl

offer_flag : (bid offer : Bool)
    → not (bit_and (bit_or (if bid then 1 else 0) (if offer then 2 else 0)) 2 == 0) ≡ offer
offer_flag true true = refl
offer_flag true false = refl
offer_flag false true = refl
offer_flag false false = refl

-- a quotation by its fields
quote-eq : (q r : Quote) → q.symbol ≡ r.symbol → q.bid_price ≡ r.bid_price → q.bid_size ≡ r.bid_size
    → q.offer_price ≡ r.offer_price → q.offer_size ≡ r.offer_size → q.bid_auto ≡ r.bid_auto
    → q.offer_auto ≡ r.offer_auto → q ≡ r
quote-eq q r a b c d e f g = λ i. record {
  symbol = a i;
  bid_price = b i;
  bid_size = c i;
  offer_price = d i;
  offer_size = e i;
  bid_auto = f i;
  offer_auto = g i;
}

seven_parts : (a b c d e f g : List ℕ) → a ++ b ++ c ++ d ++ e ++ f ++ g ≡ a
    ++ (b ++ (c ++ (d ++ (e ++ (f ++ g)))))
seven_parts a b c d e f g = simp append_assoc refl

-- what follows the symbol in a quotation
version1_rest : Quote → List ℕ
version1_rest q = to_be_bytes w32 q.bid_price
    ++ (to_be_bytes w32 q.bid_size ++ (to_be_bytes w32 q.offer_price
    ++ (to_be_bytes w32 q.offer_size ++ (flags_of q ∷ []))))

version1_of-rest : (q : Quote) → is_symbol_field q.symbol ≡ true → q.bid_price < 2 ^ 32
    → q.bid_size < 2 ^ 32 → q.offer_price < 2 ^ 32 → q.offer_size < 2 ^ 32
    → version1_of (0x51 ∷ (q.symbol ++ version1_rest q)) ≡ q
unfolding version1_rest
version1_of-rest q good bp bs op os =
    let eight = eight_bytes q.symbol good in
    let rest = version1_rest q in
    quote-eq (version1_of (0x51 ∷ (q.symbol ++ rest))) q
    (take_at q.symbol rest 8 eight)
    (ap (λ (x : List ℕ). from_be_bytes w32 (take 4 x)) (past_symbol q.symbol rest 0 eight)
    ∙ from_be_bytes-to_be_bytes_4 q.bid_price bp)
    (ap (λ (x : List ℕ). from_be_bytes w32 (take 4 x)) (past_symbol q.symbol rest 4 eight)
    ∙ from_be_bytes-to_be_bytes_4 q.bid_size bs)
    (ap (λ (x : List ℕ). from_be_bytes w32 (take 4 x)) (past_symbol q.symbol rest 8 eight)
    ∙ from_be_bytes-to_be_bytes_4 q.offer_price op)
    (ap (λ (x : List ℕ). from_be_bytes w32 (take 4 x)) (past_symbol q.symbol rest 12 eight)
    ∙ from_be_bytes-to_be_bytes_4 q.offer_size os)
    (ap (λ (x : ℕ). not (bit_and x 1 == 0)) (byte_past_symbol q.symbol rest 16 eight)
    ∙ bid_flag q.bid_auto q.offer_auto)
    (ap (λ (x : ℕ). not (bit_and x 2 == 0)) (byte_past_symbol q.symbol rest 16 eight)
    ∙ offer_flag q.bid_auto q.offer_auto)

-- what was written in version 1 reads back
pub item_of-version1 : (q : Quote) → is_symbol_field q.symbol ≡ true → q.bid_price < 2 ^ 32
    → q.bid_size < 2 ^ 32 → q.offer_price < 2 ^ 32 → q.offer_size < 2 ^ 32
    → item_of (version1_bytes q) ≡ item.Quote q
unfolding item_of version1_rest
item_of-version1 q good bp bs op os =
    let message = 0x51 ∷ (q.symbol ++ version1_rest q) in
    ap item_of (seven_parts (0x51 ∷ []) q.symbol (to_be_bytes w32 q.bid_price)
    (to_be_bytes w32 q.bid_size) (to_be_bytes w32 q.offer_price) (to_be_bytes w32 q.offer_size)
    (flags_of q ∷ []))
    ∙ ap (λ (b : Bool). if b then item.Quote (version1_of message) else (if is_version2 message then
    item.Quote (version2_of message) else (if is_halt message then item.Halt (symbol_at message)
    (state_at message == 1) else item.Other))) (has_form-is 0x51 26 q.symbol (version1_rest q)
    (eight_bytes q.symbol good) good refl)
    ∙ ap item.Quote (version1_of-rest q good bp bs op os)

version2_rest : Quote → List ℕ
version2_rest q = to_be_bytes w32 q.bid_price
    ++ (to_be_bytes w64 q.bid_size ++ (to_be_bytes w32 q.offer_price
    ++ (to_be_bytes w64 q.offer_size ++ (flags_of q ∷ []))))

version2_of-rest : (q : Quote) → is_symbol_field q.symbol ≡ true → q.bid_price < 2 ^ 32
    → q.bid_size < 2 ^ 64 → q.offer_price < 2 ^ 32 → q.offer_size < 2 ^ 64
    → version2_of (0x71 ∷ (q.symbol ++ version2_rest q)) ≡ q
unfolding version2_rest
version2_of-rest q good bp bs op os =
    let eight = eight_bytes q.symbol good in
    let rest = version2_rest q in
    quote-eq (version2_of (0x71 ∷ (q.symbol ++ rest))) q
    (take_at q.symbol rest 8 eight)
    (ap (λ (x : List ℕ). from_be_bytes w32 (take 4 x)) (past_symbol q.symbol rest 0 eight)
    ∙ from_be_bytes-to_be_bytes_4 q.bid_price bp)
    (ap (λ (x : List ℕ). from_be_bytes w64 (take 8 x)) (past_symbol q.symbol rest 4 eight)
    ∙ from_be_bytes-to_be_bytes_8 q.bid_size bs)
    (ap (λ (x : List ℕ). from_be_bytes w32 (take 4 x)) (past_symbol q.symbol rest 12 eight)
    ∙ from_be_bytes-to_be_bytes_4 q.offer_price op)
    (ap (λ (x : List ℕ). from_be_bytes w64 (take 8 x)) (past_symbol q.symbol rest 16 eight)
    ∙ from_be_bytes-to_be_bytes_8 q.offer_size os)
    (ap (λ (x : ℕ). not (bit_and x 1 == 0)) (byte_past_symbol q.symbol rest 24 eight)
    ∙ bid_flag q.bid_auto q.offer_auto)
    (ap (λ (x : ℕ). not (bit_and x 2 == 0)) (byte_past_symbol q.symbol rest 24 eight)
    ∙ offer_flag q.bid_auto q.offer_auto)

-- what was written in version 2 reads back
pub item_of-version2 : (q : Quote) → is_symbol_field q.symbol ≡ true → q.bid_price < 2 ^ 32
    → q.bid_size < 2 ^ 64 → q.offer_price < 2 ^ 32 → q.offer_size < 2 ^ 64
    → item_of (version2_bytes q) ≡ item.Quote q
unfolding item_of version2_rest
item_of-version2 q good bp bs op os =
    let message = 0x71 ∷ (q.symbol ++ version2_rest q) in
    ap item_of (seven_parts (0x71 ∷ []) q.symbol (to_be_bytes w32 q.bid_price)
    (to_be_bytes w64 q.bid_size) (to_be_bytes w32 q.offer_price) (to_be_bytes w64 q.offer_size)
    (flags_of q ∷ []))
    ∙ ap (λ (b : Bool). if b then item.Quote (version2_of message) else
    (if is_halt message then item.Halt (symbol_at message) (state_at message == 1) else item.Other))
    (has_form-is 0x71 34 q.symbol (version2_rest q) (eight_bytes q.symbol good) good refl)
    ∙ ap item.Quote (version2_of-rest q good bp bs op os)

abbrev state_rest : Bool → List ℕ
state_rest halted = (if halted then 1 else 0) ∷ []

small : (halted : Bool) → nat_le (if halted then 1 else 0) 1 ≡ true
small true = refl
small false = refl

reads : (halted : Bool) → ((if halted then 1 else 0) == 1) ≡ halted
reads true = refl
reads false = refl

-- what was written as a halt reads back
pub item_of-halt : (symbol : List ℕ) (halted : Bool) → is_symbol_field symbol ≡ true
    → item_of (halt_bytes symbol halted) ≡ item.Halt symbol halted
unfolding item_of
item_of-halt symbol halted good =
    let eight = eight_bytes symbol good in
    let rest = state_rest halted in
    let message = 0x48 ∷ (symbol ++ rest) in
    let state = byte_past_symbol symbol rest 0 eight in
    ap (λ (b : Bool). if b then item.Halt (symbol_at message)
    (state_at message == 1) else item.Other)
    (ap (λ (b : Bool). b && nat_le (state_at message) 1) (has_form-is 0x48 10 symbol rest eight
    good refl) ∙ ap (λ (n : ℕ). nat_le n 1) state ∙ small halted)
    ∙ ap (λ (n : ℕ). item.Halt (symbol_at message) (n == 1)) state
    ∙ ap (λ (s : List ℕ). item.Halt s (get_or rest 0 0 == 1)) (take_at symbol rest 8 eight)
    ∙ ap (item.Halt symbol) (reads halted)
