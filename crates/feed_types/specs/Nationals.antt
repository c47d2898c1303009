-- The state of a national best (this project's profile): no side, one side, or how the two prices
-- compare.
use Rattle.std.specs.Prelude.{ℕ, nat_lt, ◌==◌, if◌then◌else◌, Option, Some, None}
use Rattle.feed_types.specs.declared.national.Best.{Best}
use Rattle.feed_types.specs.declared.national.National.{National}
use Rattle.feed_types.specs.declared.national.NationalState.{NationalState}
use Rattle.feed_types.specs.declared.national.NationalState.TheVariants.{Empty, OneSided, Normal, Locked, Crossed}

abbrev pub state_of_prices : ℕ → ℕ → NationalState
state_of_prices bid offer =
    if bid == offer then Locked else
    (if nat_lt offer bid then Crossed else Normal)

abbrev pub state_of_sides : Option Best → Option Best → NationalState
state_of_sides None None = Empty
state_of_sides (Some bid) None = OneSided
state_of_sides None (Some offer) = OneSided
state_of_sides (Some bid) (Some offer) = state_of_prices bid.price offer.price

abbrev pub state_of : National → NationalState
state_of national = state_of_sides national.bid national.offer
