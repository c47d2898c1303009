-- A venue's side, one side of a symbol and the whole symbol as contracts see them; and, cited by
-- private clauses alone, how a venue's sides are kept, in 64 bytes.
use Rattle.std.specs.Prelude.{◌≡◌, ℕ, List, Bool, true, false, Option, Some, None, slice_index_or, slice_set}
use Rattle.feed_types.specs.declared.line.Side.{Side}
use Rattle.feed_types.specs.declared.line.Side.TheVariants.{Bid, Offer}
use Rattle.feed_types.specs.declared.national.Best.{Best}
use Rattle.nbbo_book.specs.declared.side_quote.SideQuote.{SideQuote}

-- the side that a venue shows, if any, and its age
pub record VenueSideState : Type 0 where
  pub quote : Option SideQuote
  pub age : ℕ

-- one side of a symbol: what each venue shows, at the place of its number, and the ranks of those
-- sides that are eligible, best first
pub record BookSide : Type 0 where
  pub venue_sides : List VenueSideState
  pub ranks : List Best

-- what is kept of a symbol: the symbol, the venues that halt it, and its two sides
pub record RowState : Type 0 where
  pub symbol : List ℕ
  pub halted : List Bool
  pub bids : BookSide
  pub offers : BookSide

-- the sides that the venues show of a symbol
pub record SidesState : Type 0 where
  pub bids : List VenueSideState
  pub offers : List VenueSideState

abbrev pub sides_in : Side → SidesState → List VenueSideState
sides_in Bid sides = sides.bids
sides_in Offer sides = sides.offers

-- the sides on the other side of the market
abbrev pub sides_across : Side → SidesState → List VenueSideState
sides_across Bid sides = sides.offers
sides_across Offer sides = sides.bids

-- with this one in the place of a venue's
abbrev pub with_side : Side → ℕ → VenueSideState → SidesState → SidesState
with_side Bid venue venue_side sides =
    record { bids = slice_set sides.bids venue venue_side; offers = sides.offers }
with_side Offer venue venue_side sides =
    record { bids = sides.bids; offers = slice_set sides.offers venue venue_side }

-- one side of a symbol, of these parts
abbrev pub book_side_of : Side → SidesState → List Best → BookSide
book_side_of side sides ranks = record { venue_sides = sides_in side sides; ranks = ranks }

-- the side at a venue's place
abbrev pub venue_side_at : List VenueSideState → ℕ → VenueSideState
venue_side_at venue_sides venue =
    slice_index_or venue_sides venue (record { quote = None; age = 0 })

abbrev pub age_at : List VenueSideState → ℕ → ℕ
age_at venue_sides venue = (venue_side_at venue_sides venue).age

-- the side of these parts, where one is shown
abbrev pub quote_of : Bool → ℕ → ℕ → Bool → Option SideQuote
quote_of false size price automated = None
quote_of true size price automated =
    Some (record { size = size; price = price; automated = automated })

-- the parts of a side that isn't shown are 0
abbrev pub IsKept : Bool → ℕ → ℕ → Bool → Type 0
IsKept false size price automated = (size ≡ 0) × (price ≡ 0) × (automated ≡ false)
IsKept true size price automated = Unit {0}

-- the parts that a side is kept in
abbrev pub is_quoted_by : Option SideQuote → Bool
is_quoted_by None = false
is_quoted_by (Some quote) = true

abbrev pub size_of : Option SideQuote → ℕ
size_of None = 0
size_of (Some quote) = quote.size

abbrev pub price_of : Option SideQuote → ℕ
price_of None = 0
price_of (Some quote) = quote.price

abbrev pub automated_of : Option SideQuote → Bool
automated_of None = false
automated_of (Some quote) = quote.automated
