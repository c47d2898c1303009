-- The bytes of the three forms as this project writes them, field by field.
use Rattle.std.specs.Prelude.{ℕ, ◌≤◌, Bool, if◌then◌else◌, List, [], ◌∷◌, ◌++◌, bit_or}
use Rattle.std.specs.Int.{w32, w64, to_be_bytes}
use Rattle.feed_types.specs.declared.item.Quote.{Quote}

-- Sizes of 32 bits, which is what version 1 can carry.
pub record FitsVersion1 (quote : Quote) : Type 0 where
  pub bid : quote.bid_size ≤ 4294967295
  pub offer : quote.offer_size ≤ 4294967295

-- bit 0 for an automated bid, bit 1 for an automated offer, and no other
abbrev pub flags_of : Quote → ℕ
flags_of quote = bit_or (if quote.bid_auto then 1 else 0) (if quote.offer_auto then 2 else 0)

-- a quotation of this version, with these bytes for its sizes
abbrev pub quote_bytes : ℕ → Quote → List ℕ → List ℕ → List ℕ
quote_bytes version quote bid_size offer_size =
    (version ∷ []) ++ quote.symbol
    ++ to_be_bytes w32 quote.bid_price ++ bid_size
    ++ to_be_bytes w32 quote.offer_price ++ offer_size
    ++ (flags_of quote ∷ [])

abbrev pub version1_bytes : Quote → List ℕ
version1_bytes quote =
    quote_bytes 0x51 quote (to_be_bytes w32 quote.bid_size) (to_be_bytes w32 quote.offer_size)

abbrev pub version2_bytes : Quote → List ℕ
version2_bytes quote =
    quote_bytes 0x71 quote (to_be_bytes w64 quote.bid_size) (to_be_bytes w64 quote.offer_size)

abbrev pub halt_bytes : List ℕ → Bool → List ℕ
halt_bytes symbol halted = (0x48 ∷ []) ++ symbol ++ ((if halted then 1 else 0) ∷ [])
