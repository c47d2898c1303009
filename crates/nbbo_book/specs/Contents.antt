-- The contents of a book, and that they are those of some entries. Cited by `FitsBook` and private
-- clauses alone.
use Rattle.std.specs.Prelude.{ℕ, ◌≡◌, ◌<◌, List, Bool, false, slice_index_or, length}
use Rattle.std.specs.List.{AllByRecursion}
use Rattle.feed_types.specs.declared.journal.Entry.{Entry}
use Rattle.feed_types.specs.declared.line.Side.{Side}
use Rattle.feed_types.specs.declared.line.Side.TheVariants.{Bid, Offer}
use Rattle.nbbo_book.specs.declared.venue_side.VenueSide.{VenueSide}
use Rattle.nbbo_book.specs.declared.row.Row.{Row}
use Rattle.nbbo_book.specs.VenueSides.{venue_side_at}
use Rattle.nbbo_book.specs.Sides.{side_of, age_of}
use Rattle.nbbo_book.specs.Eligible.{is_self_helped, is_halted}

-- the number of entries, each venue's self-help, and what is kept of each symbol, in order
pub record BookContents : Type 0 where
  pub applied : ℕ
  pub helped : List Bool
  pub rows : List Row

-- each venue's side, with its age, is that of the entries
abbrev pub SideFits : List Entry → List ℕ → Side → List VenueSide → Type 0
SideFits entries symbol side venue_sides =
    (venue : ℕ) → venue < 16
    → venue_side_at venue_sides venue
    ≡ record {
      quote = side_of entries venue symbol side;
      age = age_of entries venue symbol side;
    }

-- a symbol's sides and halts are those of the entries
pub record RowFits (entries : List Entry) (row : Row) : Type 0 where
  pub bids : SideFits entries row.symbol Bid row.bids.venue_sides
  pub offers : SideFits entries row.symbol Offer row.offers.venue_sides
  pub halted : (venue : ℕ) → venue < 16
      → slice_index_or row.halted venue false ≡ is_halted entries venue row.symbol

-- the number, the sides, their ages, the halts and the self-help are those of the entries
pub record ContentsFit (entries : List Entry) (contents : BookContents) : Type 0 where
  pub applied : contents.applied ≡ length entries
  pub helped : (venue : ℕ) → venue < 16
      → slice_index_or contents.helped venue false ≡ is_self_helped entries venue
  pub rows : AllByRecursion (RowFits entries) contents.rows
