-- The venues with the best bid and the best offer (17 CFR 242.600(b): identical bids or offers rank
-- first by size, the largest highest, and then by time, the first received highest).
use Rattle.std.specs.Prelude.{◌≢◌, ◌↔◌, ℕ, nat_lt, ◌==◌, Bool, ◌&&◌, ◌||◌, IsTrue, List, Option, find}
use Rattle.std.specs.List.{filter_map, list_all, range_with_len, AllPairs, Contains}
use Rattle.feed_types.specs.declared.journal.Entry.{Entry}
use Rattle.feed_types.specs.declared.line.Side.{Side}
use Rattle.feed_types.specs.declared.line.Side.TheVariants.{Bid, Offer}
use Rattle.feed_types.specs.declared.national.Best.{Best}
use Rattle.feed_types.specs.declared.national.National.{National}
use Rattle.nbbo_book.specs.Sides.{age_of}
use Rattle.nbbo_book.specs.Eligible.{IsEligible, eligible_of}

-- a higher bid, a lower offer
abbrev pub is_better_price : Side → ℕ → ℕ → Bool
is_better_price Bid p q = nat_lt q p
is_better_price Offer p q = nat_lt p q

-- ahead by price, or at equal price by size
abbrev pub is_better : Side → Best → Best → Bool
is_better side x y =
    is_better_price side x.price y.price || ((x.price == y.price) && nat_lt y.size x.size)

-- by price and size, and where both are equal by the age of the venues' sides
abbrev pub beats : Side → (ℕ → ℕ) → Best → Best → Bool
beats side age x y =
    is_better side x y
    || (((x.price == y.price) && (x.size == y.size)) && nat_lt (age x.venue) (age y.venue))

-- x ranks before y
abbrev pub Beats : List Entry → List ℕ → Side → Best → Best → Type 0
Beats entries symbol side x y =
    IsTrue (beats side (λ venue. age_of entries venue symbol side) x y)

-- x is the eligible side that beats every other one
pub record IsBest (entries : List Entry) (symbol : List ℕ) (side : Side) (x : Best) : Type 0 where
  pub eligible : IsEligible entries symbol side x
  pub first : (y : Best) → IsEligible entries symbol side y → y.venue ≢ x.venue
      → Beats entries symbol side x y

-- the eligible sides, each before those that it beats
pub record IsRanking
    (entries : List Entry) (symbol : List ℕ) (side : Side) (ranks : List Best) : Type 0 where
  pub members : (x : Best) → Contains ranks x ↔ IsEligible entries symbol side x
  pub order : AllPairs (Beats entries symbol side) ranks

abbrev pub all_venues : List ℕ
all_venues = range_with_len 0 16

abbrev pub eligible_sides : List Entry → List ℕ → Side → List Best
eligible_sides entries symbol side = filter_map (eligible_of entries symbol side) all_venues

-- it beats every side in the list that is of another venue
abbrev pub beats_others : Side → (ℕ → ℕ) → List Best → Best → Bool
beats_others side age all x = list_all (λ y. (y.venue == x.venue) || beats side age x y) all

-- The eligible side that beats every other one: the x of `IsBest`, or none where none is eligible.
abbrev pub best_of : List Entry → List ℕ → Side → Option Best
best_of entries symbol side =
    find
    (beats_others side (λ venue. age_of entries venue symbol side)
    (eligible_sides entries symbol side))
    (eligible_sides entries symbol side)

-- the national best bid and offer of a symbol
abbrev pub national_of : List Entry → List ℕ → National
national_of entries symbol =
    record { bid = best_of entries symbol Bid; offer = best_of entries symbol Offer }
