-- One side of a symbol, and the effect of an entry on it. Cited by private clauses alone.
use Rattle.std.specs.Prelude.{ℕ, ◌<◌, List, [], Bool, true, ◌≡◌, length, Option, Some, None, slice_set, replicate, if◌then◌else◌}
use Rattle.feed_types.specs.declared.line.Side.{Side}
use Rattle.feed_types.specs.declared.national.Best.{Best}
use Rattle.nbbo_book.specs.declared.side_quote.SideQuote.{SideQuote}
use Rattle.nbbo_book.specs.declared.venue_side.VenueSide.{VenueSide}
use Rattle.nbbo_book.specs.declared.ranks.Cause.{Cause}
use Rattle.nbbo_book.specs.declared.ranks.Cause.TheVariants.{Quoted, Rechecked}
use Rattle.nbbo_book.specs.Sides.{is_same_side}
use Rattle.nbbo_book.specs.VenueSides.{BookSide, venue_side_at, age_at}
use Rattle.nbbo_book.specs.Eligible.{ranked_by}
use Rattle.nbbo_book.specs.Ranks.{InRank, IsIn, IsNewest, HasNone, without, placed}

-- no venue shows anything yet
abbrev pub empty_side : BookSide
empty_side =
    record { venue_sides = replicate 16 (record { quote = None; age = 0 }); ranks = [] }

abbrev pub rank_at : (ℕ → Bool) → List VenueSide → ℕ → Option Best
rank_at may venue_sides venue = ranked_by (may venue) venue (venue_side_at venue_sides venue).quote

-- a venue's side is this from now on
abbrev pub side_set : Side → ℕ → VenueSide → Bool → BookSide → BookSide
side_set side venue venue_side may kept =
    record {
      venue_sides = slice_set kept.venue_sides venue venue_side;
      ranks = placed side (age_at (slice_set kept.venue_sides venue venue_side))
          (ranked_by may venue venue_side.quote) (without venue kept.ranks);
    }

-- a venue shows this, or nothing, from now on; where it did already nothing changes
abbrev pub side_quoted : Side → ℕ → Option SideQuote → ℕ → Bool → BookSide → BookSide
side_quoted side venue quote age may kept =
    if is_same_side (venue_side_at kept.venue_sides venue).quote quote
    then kept else side_set side venue (record { quote = quote; age = age }) may kept

-- a venue may be ranked, or may not, from now on
abbrev pub side_rechecked : Side → ℕ → Bool → BookSide → BookSide
side_rechecked side venue may kept =
    record {
      venue_sides = kept.venue_sides;
      ranks = placed side (age_at kept.venue_sides)
          (ranked_by may venue (venue_side_at kept.venue_sides venue).quote)
          (without venue kept.ranks);
    }

-- What code asks of a side: its ranks are in order and as the venues show them, a venue has at most
-- one and where it shows nothing none, and there is room for each venue's.
pub record IsRanked (side : Side) (kept : BookSide) : Type 0 where
  pub count : length kept.venue_sides ≡ 16
  pub order : InRank side (age_at kept.venue_sides) kept.ranks
  pub quote : (x : Best) → IsIn kept.ranks x → (venue_side_at kept.venue_sides x.venue).quote
      ≡ Some (record { price = x.price; size = x.size; automated = true })
  pub once : (venue : ℕ) → HasNone venue (without venue kept.ranks)
  pub room : (venue : ℕ) → venue < 16 → length (without venue kept.ranks) < 16

-- the ages are those of entries before this one
abbrev pub ArePast : ℕ → List VenueSide → Type 0
ArePast next venue_sides = (venue : ℕ) → venue < 16 → age_at venue_sides venue < next

-- The cause fits what a venue shows by now: where it was quoted, it is the newest of all, and isn't
-- what was ranked; where it was rechecked, the ranks are in order for what it shows.
abbrev pub IsCausedBy : Cause → Side → ℕ → BookSide → Type 0
IsCausedBy Quoted side venue kept =
    (x : Best) → ranked_by true venue (venue_side_at kept.venue_sides venue).quote ≡ Some x
    → IsNewest (age_at kept.venue_sides) x (without venue kept.ranks) × (¬ IsIn kept.ranks x)
IsCausedBy Rechecked side venue kept = IsRanked side kept

-- What code asks of a side before a venue's rank is updated: the others' are in order, and it has
-- room.
pub record CanRank (side : Side) (venue : ℕ) (cause : Cause) (kept : BookSide) : Type 0 where
  pub others : InRank side (age_at kept.venue_sides) (without venue kept.ranks)
  pub once : HasNone venue (without venue kept.ranks)
  pub room : venue < 16 → length (without venue kept.ranks) < 16
  pub caused : IsCausedBy cause side venue kept
