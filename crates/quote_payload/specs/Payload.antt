-- The meaning of a venue's message (this project's quotation payload): a table of three forms, each
-- of one type byte and one length, with its fields at fixed offsets. All numbers are unsigned, high
-- byte first.
use Rattle.std.specs.Prelude.{ℕ, Bool, not, ◌&&◌, ◌==◌, nat_le, if◌then◌else◌, List, length, take, drop, slice_index, bit_and}
use Rattle.std.specs.Int.{w32, w64, from_be_bytes}
use Rattle.feed_types.specs.Symbols.{is_symbol_field}
use Rattle.feed_types.specs.declared.item.Quote.{Quote}
use Rattle.feed_types.specs.declared.item.Item.{Item}
use Rattle.feed_types.specs.declared.item.Item.TheVariants as item

-- the fields that a form may have, by their offset
abbrev pub type_at : List ℕ → ℕ
type_at message = slice_index message 0

abbrev pub symbol_at : List ℕ → List ℕ
symbol_at message = take 8 (drop 1 message)

abbrev pub u32_at : ℕ → List ℕ → ℕ
u32_at offset message = from_be_bytes w32 (take 4 (drop offset message))

abbrev pub u64_at : ℕ → List ℕ → ℕ
u64_at offset message = from_be_bytes w64 (take 8 (drop offset message))

abbrev pub is_flag_at : ℕ → ℕ → List ℕ → Bool
is_flag_at offset mask message = not (bit_and (slice_index message offset) mask == 0)

-- a message of this type and length, whose symbol is one
abbrev pub has_form : ℕ → ℕ → List ℕ → Bool
has_form kind size message =
    (type_at message == kind)
    && ((length message == size) && is_symbol_field (symbol_at message))

-- a quotation in version 1, with sizes of 32 bits
abbrev pub is_version1 : List ℕ → Bool
is_version1 message = has_form 0x51 26 message

abbrev pub version1_of : List ℕ → Quote
version1_of message = record {
  symbol = symbol_at message;
  bid_price = u32_at 9 message;
  bid_size = u32_at 13 message;
  offer_price = u32_at 17 message;
  offer_size = u32_at 21 message;
  bid_auto = is_flag_at 25 1 message;
  offer_auto = is_flag_at 25 2 message;
}

-- a quotation in version 2, with sizes of 64 bits
abbrev pub is_version2 : List ℕ → Bool
is_version2 message = has_form 0x71 34 message

abbrev pub version2_of : List ℕ → Quote
version2_of message = record {
  symbol = symbol_at message;
  bid_price = u32_at 9 message;
  bid_size = u64_at 13 message;
  offer_price = u32_at 21 message;
  offer_size = u64_at 25 message;
  bid_auto = is_flag_at 33 1 message;
  offer_auto = is_flag_at 33 2 message;
}

-- a halt, or the end of one, by the state at its end: 01 halted, 00 trading
abbrev pub state_at : List ℕ → ℕ
state_at message = slice_index message 9

abbrev pub is_halt : List ℕ → Bool
is_halt message = has_form 0x48 10 message && nat_le (state_at message) 1

-- the item that a message is
unfoldable pub item_of : List ℕ → Item
item_of message =
    if is_version1 message then item.Quote (version1_of message) else
    (if is_version2 message then item.Quote (version2_of message) else
    (if is_halt message then item.Halt (symbol_at message) (state_at message == 1) else item.Other))
