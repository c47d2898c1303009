-- Cited by private clauses alone: what a book keeps of a symbol, and how an entry changes it.
use Rattle.std.specs.Prelude.{ℕ, List, Bool, false, true, not, ◌≡◌, ◌&&◌, ◌++◌, map, Option, Some, None, slice_index_or, slice_set, replicate, if◌then◌else◌}
use Rattle.std.specs.List.{filter_map}
use Rattle.std.specs.Str.{bytes_eq}
use Rattle.feed_types.specs.declared.journal.Entry.{Entry}
use Rattle.feed_types.specs.declared.journal.Entry.TheVariants.{Consumed, SelfHelp}
use Rattle.feed_types.specs.declared.item.Item.{Item}
use Rattle.feed_types.specs.declared.item.Item.TheVariants as item
use Rattle.feed_types.specs.declared.item.Quote.{Quote}
use Rattle.feed_types.specs.declared.line.Side.{Side}
use Rattle.feed_types.specs.declared.line.Side.TheVariants.{Bid, Offer}
use Rattle.feed_types.specs.declared.national.National.{National}
use Rattle.nbbo_book.specs.VenueSides.{BookSide}
use Rattle.nbbo_book.specs.declared.row.Row.{Row}
use Rattle.nbbo_book.specs.declared.change.Change.{Change}
use Rattle.nbbo_book.specs.declared.steps.Step.{Step}
use Rattle.nbbo_book.specs.Sides.{quoted_by}
use Rattle.nbbo_book.specs.Nationals.{IsRanking, national_of}
use Rattle.nbbo_book.specs.Changes.{change_of}
use Rattle.nbbo_book.specs.Ranks.{best_of_ranks}
use Rattle.nbbo_book.specs.BookSides.{ArePast, IsRanked, empty_side, side_quoted, side_rechecked}

abbrev pub may_at : List Bool → List Bool → ℕ → Bool
may_at helped halted venue =
    not (slice_index_or helped venue false) && not (slice_index_or halted venue false)

abbrev pub side_at : Side → Row → BookSide
side_at Bid row = row.bids
side_at Offer row = row.offers

pub record IsRowRanked (next : ℕ) (row : Row) : Type 0 where
  pub bids : IsRanked Bid row.bids
  pub offers : IsRanked Offer row.offers
  pub past_bids : ArePast next row.bids.venue_sides
  pub past_offers : ArePast next row.offers.venue_sides

abbrev pub row_quoted : List Bool → ℕ → Quote → ℕ → Row → Row
row_quoted helped venue quote age row =
    let may = may_at helped row.halted venue in
    record {
      symbol = row.symbol;
      halted = row.halted;
      bids = side_quoted Bid venue (Some (quoted_by quote Bid)) age may row.bids;
      offers = side_quoted Offer venue (Some (quoted_by quote Offer)) age may row.offers;
    }

abbrev pub row_ended : ℕ → ℕ → Row → Row
row_ended venue age row =
    record {
      symbol = row.symbol;
      halted = slice_set row.halted venue false;
      bids = side_quoted Bid venue None age false row.bids;
      offers = side_quoted Offer venue None age false row.offers;
    }

-- with these halts and flags of self-help, of which one venue's differ from before
abbrev pub row_rechecked : List Bool → ℕ → List Bool → Row → Row
row_rechecked helped venue halted row =
    let may = may_at helped halted venue in
    record {
      symbol = row.symbol;
      halted = halted;
      bids = side_rechecked Bid venue may row.bids;
      offers = side_rechecked Offer venue may row.offers;
    }

abbrev pub row_halted : List Bool → ℕ → Bool → Row → Row
row_halted helped venue halted row =
    row_rechecked helped venue (slice_set row.halted venue halted) row

abbrev pub row_helped : List Bool → ℕ → Row → Row
row_helped helped venue row = row_rechecked helped venue row.halted row

abbrev pub row_after_item : List Bool → ℕ → ℕ → Item → Row → Row
row_after_item helped age venue (item.Quote quote) row =
    if bytes_eq quote.symbol row.symbol then row_quoted helped venue quote age row else row
row_after_item helped age venue (item.Halt symbol halted) row =
    if bytes_eq symbol row.symbol then row_halted helped venue halted row else row
row_after_item helped age venue item.Other row = row
row_after_item helped age venue item.End row = row_ended venue age row
row_after_item helped age venue item.Skipped row = row_ended venue age row

-- a symbol after one more entry, of this age, with these flags of self-help after it
abbrev pub row_after : List Bool → ℕ → Entry → Row → Row
row_after helped age (Consumed venue numbered) row =
    row_after_item helped age venue numbered.item row
row_after helped age (SelfHelp venue on) row = row_helped helped venue row

abbrev pub helped_after : Entry → List Bool → List Bool
helped_after (Consumed venue numbered) helped = helped
helped_after (SelfHelp venue on) helped = slice_set helped venue on

abbrev pub national_at : Row → National
national_at row =
    record { bid = best_of_ranks row.bids.ranks; offer = best_of_ranks row.offers.ranks }

abbrev pub row_change : List Bool → ℕ → ℕ → Entry → Row → Option Change
row_change helped age position entry row =
    change_of position row.symbol
    (national_at row) (national_at (row_after helped age entry row))

-- a symbol after a step
abbrev pub row_stepped : Step → Row → Row
row_stepped step = row_after step.venues.now.helped step.age step.entry.now

-- its change, if any
abbrev pub row_told : Step → Row → Option Change
row_told step = row_change step.venues.now.helped step.age step.position step.entry.now

-- every symbol is as after the step, and their changes come after those that were there
pub record AppliesStep (step : Step) (old new : List Row) (before after : List Change) : Type 0
  where
    pub rows : new ≡ map (row_stepped step) old
    pub items : after ≡ before ++ filter_map (row_told step) old

-- the symbol's national best as a change, where it has changed
abbrev pub told_where : Bool → ℕ → Row → Option Change
told_where false position row = None
told_where true position row =
    Some (record { position = position; symbol = row.symbol; national = national_at row })

-- what is kept of a symbol gives its national best and its ranks after these entries
pub record ShowsSymbol (entries : List Entry) (symbol : List ℕ) (row : Row) : Type 0 where
  pub national : national_at row ≡ national_of entries symbol
  pub ranking : (side : Side) → IsRanking entries symbol side (side_at side row).ranks

-- the symbol that a quotation or a halt is of
abbrev pub symbol_in_item : Item → Option (List ℕ)
symbol_in_item (item.Quote quote) = Some quote.symbol
symbol_in_item (item.Halt symbol halted) = Some symbol
symbol_in_item item.Other = None
symbol_in_item item.End = None
symbol_in_item item.Skipped = None

abbrev pub symbol_in : Entry → Option (List ℕ)
symbol_in (Consumed venue numbered) = symbol_in_item numbered.item
symbol_in (SelfHelp venue on) = None

-- nothing is known of the symbol yet
abbrev pub empty_row : List ℕ → Row
empty_row symbol =
    record {
      symbol = symbol;
      halted = replicate 16 false;
      bids = empty_side;
      offers = empty_side;
    }
