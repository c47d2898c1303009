-- The sides of the venues as they are kept, both of a venue together. Cited by private clauses
-- alone.
use Rattle.std.specs.Prelude.{List, map}
use Rattle.nbbo_book.specs.declared.venue_sides.SidePair.{SidePair}
use Rattle.nbbo_book.specs.VenueSides.{SidesState}

abbrev pub sides_of_pairs : List SidePair → SidesState
sides_of_pairs pairs =
    record {
      bids = map (λ (pair : SidePair). pair.bid) pairs;
      offers = map (λ (pair : SidePair). pair.offer) pairs;
    }
