-- Both sides of the venues, after one was set.
use Rattle.std.proofs.Common.{ℕ, ◌≡◌, ◌∙◌, List, ap, refl, map, get_or, set}
use Rattle.std.proofs.lemmas.List.{map-set}
use Rattle.std.proofs.Math.Seq.{map-set_same}
use Rattle.feed_types.specs.declared.line.Side.{Side}
use Rattle.feed_types.specs.declared.line.Side.TheVariants.{Bid, Offer}
use Rattle.feed_types.specs.declared.national.Best.{Best}
use Rattle.nbbo_book.specs.declared.venue_side.VenueSide.{VenueSide}
use Rattle.nbbo_book.specs.declared.venue_sides.SidePair.{SidePair}
use Rattle.nbbo_book.specs.VenueSides.{SidesState, book_side_of, sides_across, with_side}
use Rattle.nbbo_book.specs.SidePairs.{sides_of_pairs}

pub set_side : (side : Side) (v : ℕ) (st : VenueSide) (sides : SidesState) (ranks : List Best)
    → book_side_of side (with_side side v st sides) ranks
    ≡ record {
      venue_sides = set (book_side_of side sides ranks).venue_sides v st;
      ranks = ranks;
    }
set_side Bid v st sides ranks = refl
set_side Offer v st sides ranks = refl

pub set_across : (side : Side) (v : ℕ) (st : VenueSide) (sides : SidesState)
    → sides_across side (with_side side v st sides) ≡ sides_across side sides
set_across Bid v st sides = refl
set_across Offer v st sides = refl

abbrev bid_in : SidePair → VenueSide
bid_in pair = pair.bid

abbrev offer_in : SidePair → VenueSide
offer_in pair = pair.offer

-- a pair that differs in its bid alone
pub bid_set : (pairs : List SidePair) (v : ℕ) (d pair : SidePair)
    → pair.offer ≡ (get_or pairs v d).offer
    → sides_of_pairs (set pairs v pair) ≡ with_side Bid v pair.bid (sides_of_pairs pairs)
bid_set pairs v d pair same =
    ap (λ (t : List VenueSide). record { bids = t; offers = map offer_in (set pairs v pair) })
    (map-set bid_in pairs v pair)
    ∙ ap (λ (t : List VenueSide). record { bids = set (map bid_in pairs) v pair.bid; offers = t })
    (map-set_same offer_in pairs v pair d same)

-- a pair that differs in its offer alone
pub offer_set : (pairs : List SidePair) (v : ℕ) (d pair : SidePair)
    → pair.bid ≡ (get_or pairs v d).bid
    → sides_of_pairs (set pairs v pair) ≡ with_side Offer v pair.offer (sides_of_pairs pairs)
offer_set pairs v d pair same =
    ap (λ (t : List VenueSide). record { bids = t; offers = map offer_in (set pairs v pair) })
    (map-set_same bid_in pairs v pair d same)
    ∙ ap (λ (t : List VenueSide). record { bids = map bid_in pairs; offers = t })
    (map-set offer_in pairs v pair)
