-- A venue's side in a symbol after a list of entries, and its age. Each is computed from the whole
-- list. Entries count from 1; a venue is its number.
use Rattle.std.specs.Prelude.{ℕ, zero, suc, Bool, true, false, ◌&&◌, ◌==◌, List, [], ◌∷◌, length, take, Option, Some, None, unwrap_or, if◌then◌else◌}
use Rattle.std.specs.Str.{bytes_eq}
use Rattle.feed_types.specs.declared.journal.Entry.{Entry}
use Rattle.feed_types.specs.declared.journal.Entry.TheVariants.{Consumed, SelfHelp}
use Rattle.feed_types.specs.declared.item.Item.{Item}
use Rattle.feed_types.specs.declared.item.Item.TheVariants as item
use Rattle.feed_types.specs.declared.item.Quote.{Quote}
use Rattle.feed_types.specs.declared.line.Side.{Side}
use Rattle.feed_types.specs.declared.line.Side.TheVariants.{Bid, Offer}
use Rattle.nbbo_book.specs.declared.side_quote.SideQuote.{SideQuote}

-- the second, or where it is none the first
abbrev pub later : {T : Type 0} → Option T → Option T → Option T
later first None = first
later first (Some x) = Some x

-- what is said by the last entry that says something
abbrev pub last_said : {T : Type 0} → (Entry → Option T) → List Entry → Option T
last_said says [] = None
last_said says (entry ∷ entries) = later (says entry) (last_said says entries)

-- one side of a quotation
abbrev pub quoted_by : Quote → Side → SideQuote
quoted_by quote Bid =
    record { price = quote.bid_price; size = quote.bid_size; automated = quote.bid_auto }
quoted_by quote Offer =
    record { price = quote.offer_price; size = quote.offer_size; automated = quote.offer_auto }

-- What a venue's item says of its side in a symbol: a quotation in that symbol says what the side
-- is, an end of session that there is none, Skipped the same, since after it nothing is known of
-- the venue, and every other item nothing.
abbrev pub side_said_by : List ℕ → Side → Item → Option (Option SideQuote)
side_said_by symbol side (item.Quote quote) =
    if bytes_eq quote.symbol symbol then Some (Some (quoted_by quote side)) else None
side_said_by symbol side (item.Halt halting halted) = None
side_said_by symbol side item.Other = None
side_said_by symbol side item.End = Some None
side_said_by symbol side item.Skipped = Some None

-- what an entry says of a venue's side in a symbol
abbrev pub side_said : ℕ → List ℕ → Side → Entry → Option (Option SideQuote)
side_said venue symbol side (Consumed of numbered) =
    if of == venue then side_said_by symbol side numbered.item else None
side_said venue symbol side (SelfHelp of on) = None

-- The venue's side in the symbol: what the last of its quotations in that symbol says, or none
-- where there is no such quotation or an end of its session or Skipped came after it.
abbrev pub side_of : List Entry → ℕ → List ℕ → Side → Option SideQuote
side_of entries venue symbol side =
    unwrap_or (last_said (side_said venue symbol side) entries) None

abbrev pub is_same_flag : Bool → Bool → Bool
is_same_flag true flag = flag
is_same_flag false true = false
is_same_flag false false = true

-- the same price, size and flag, or both none
abbrev pub is_same_side : Option SideQuote → Option SideQuote → Bool
is_same_side None None = true
is_same_side None (Some y) = false
is_same_side (Some x) None = false
is_same_side (Some x) (Some y) =
    (x.price == y.price) && ((x.size == y.size) && is_same_flag x.automated y.automated)

-- Walks back from n: the first number from which on, up to n, a sequence is x.
abbrev pub since : (ℕ → Option SideQuote) → Option SideQuote → ℕ → ℕ
since side_at x zero = zero
since side_at x (suc n) = if is_same_side (side_at n) x then since side_at x n else suc n

-- The age of the venue's side: the first position from which on every prefix of the entries has the
-- same side (this project's profile: the position at which the side took its price, size and flag).
abbrev pub age_of : List Entry → ℕ → List ℕ → Side → ℕ
age_of entries venue symbol side =
    since (λ n. side_of (take n entries) venue symbol side)
    (side_of entries venue symbol side) (length entries)
