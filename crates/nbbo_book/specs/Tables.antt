-- The table of the symbols, and what every book keeps. Cited by private clauses alone.
use Rattle.std.specs.Prelude.{◌≡◌, ◌≢◌, ℕ, ◌<◌, ◌≤◌, ◌+◌, nat_eq, List, Bool, IsSome, length, map}
use Rattle.std.specs.Int.{w64, to_be_bytes}
use Rattle.std.specs.List.{AllByRecursion, IsDistinct}
use Rattle.feed_types.specs.Symbols.{key_of}
use Rattle.feed_types.specs.declared.line.Side.{Side}
use Rattle.feed_types.specs.declared.line.Side.TheVariants.{Bid, Offer}
use Rattle.nbbo_book.specs.declared.row.Row.{Row}
use Rattle.nbbo_book.specs.Contents.{BookContents}
use Rattle.nbbo_book.specs.Books.{BookState}
use Rattle.nbbo_book.specs.Ranks.{IsRankingOf}
use Rattle.nbbo_book.specs.Rows.{may_at, side_at}
use Rattle.nbbo_book.specs.VenueSides.{BookSide, venue_side_at, age_at}
use Rattle.nbbo_book.specs.BookSides.{rank_at, ArePast}

abbrev pub symbols_in_rows : List Row → List (List ℕ)
symbols_in_rows rows = map (λ (row : Row). row.symbol) rows

-- the eight bytes can be read from their key
pub record HasKey (symbol : List ℕ) : Type 0 where
  pub told : to_be_bytes w64 (key_of symbol) ≡ symbol

-- the keys are those of the symbols, in order and each once
pub record IsTable (symbols : List (List ℕ)) (keys : List ℕ) : Type 0 where
  pub in_order : keys ≡ map key_of symbols
  pub told : AllByRecursion HasKey symbols
  pub distinct : IsDistinct nat_eq keys

-- No two venues' sides have the same age, the ages are those of entries before the next one, and
-- the ranks are those of the venues that may be ranked.
pub record IsSide (side : Side) (may : ℕ → Bool) (next : ℕ) (kept : BookSide) : Type 0 where
  pub count : length kept.venue_sides ≡ 16
  pub past : ArePast next kept.venue_sides
  pub apart : (v w : ℕ) → v < 16 → w < 16 → v ≢ w
      → IsSome (venue_side_at kept.venue_sides v).quote
      → IsSome (venue_side_at kept.venue_sides w).quote
      → age_at kept.venue_sides v ≢ age_at kept.venue_sides w
  pub ranked : IsRankingOf side (rank_at may kept.venue_sides) (age_at kept.venue_sides) kept.ranks

pub record IsRow (helped : List Bool) (next : ℕ) (row : Row) : Type 0 where
  pub bids : IsSide Bid (may_at helped row.halted) next (side_at Bid row)
  pub offers : IsSide Offer (may_at helped row.halted) next (side_at Offer row)
  pub count : length row.halted ≡ 16

-- the rows are those of a book of these contents
abbrev pub HasRows : BookContents → Type 0
HasRows contents = AllByRecursion (IsRow contents.helped (contents.applied + 1)) contents.rows

-- what every book keeps
pub record IsBook (keys : List ℕ) (book : BookState) : Type 0 where
  pub symbols : book.symbols ≡ symbols_in_rows book.contents.rows
  pub table : IsTable book.symbols keys
  pub venues : book.venues ≤ 16
  pub applied : book.contents.applied ≤ book.last
  pub count : length book.contents.helped ≡ 16
  pub rows : HasRows book.contents

-- a book of these parts as contracts see it
abbrev pub book_state_of : List Row → ℕ → ℕ → ℕ → List Bool → BookState
book_state_of rows venues last applied helped =
    record {
      symbols = symbols_in_rows rows;
      venues = venues;
      last = last;
      contents = record { applied = applied; helped = helped; rows = rows };
    }
