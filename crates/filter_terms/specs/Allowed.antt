-- Which advice a notice and the limits allow (this project's strategies).
use Rattle.std.specs.Prelude.{ℕ, ◌≡◌, ◌≤◌, Option, Some, None}
use Rattle.std.specs.Coded.{Coded-set, coded_ℕ, Unit-prop, le_prop}
use Rattle.feed_types.specs.declared.national.Best.{Best}
use Rattle.feed_types.specs.declared.journal.Notice.{Notice}
use Rattle.filter_terms.specs.declared.advice.Advice.{Advice}
use Rattle.filter_terms.specs.declared.advice.Advice.TheVariants.{Hold, Buy, Sell}
use Rattle.filter_terms.specs.declared.advice.Limits.{Limits}

-- an order of this venue, price and size takes some of the side, within the limits
pub record TakesOf (limits : Limits) (side : Best) (venue price size : ℕ) : Type 0 where
  pub same_venue : venue ≡ side.venue
  pub same_price : price ≡ side.price
  pub least : 1 ≤ size
  pub shown : size ≤ side.size
  pub within : size ≤ limits.max_size

-- the side is there, and the order takes some of it
abbrev pub TakesIfThere : Limits → Option Best → ℕ → ℕ → ℕ → Type 0
TakesIfThere limits None venue price size = ⊥
TakesIfThere limits (Some side) venue price size = TakesOf limits side venue price size

-- it is allowed to hold, to buy of the notice's offer, and to sell to its bid
abbrev pub IsAllowed : Limits → Notice → Advice → Type 0
IsAllowed limits notice Hold = Unit {0}
IsAllowed limits notice (Buy venue price size) =
    TakesIfThere limits notice.national.offer venue price size
IsAllowed limits notice (Sell venue price size) =
    TakesIfThere limits notice.national.bid venue price size

-- these facts have one proof at most, as a fact that a struct keeps must
TakesOf-prop : (limits : Limits) (side : Best) (venue price size : ℕ)
    → IsProp (TakesOf limits side venue price size)
TakesOf-prop limits side venue price size p q = λ i. record {
  same_venue = Coded-set coded_ℕ venue side.venue p.same_venue q.same_venue i;
  same_price = Coded-set coded_ℕ price side.price p.same_price q.same_price i;
  least = le_prop p.least q.least i;
  shown = le_prop p.shown q.shown i;
  within = le_prop p.within q.within i;
}

TakesIfThere-prop : (limits : Limits) (side : Option Best) (venue price size : ℕ)
    → IsProp (TakesIfThere limits side venue price size)
TakesIfThere-prop limits None venue price size = λ p. absurd p
TakesIfThere-prop limits (Some side) venue price size = TakesOf-prop limits side venue price size

pub IsAllowed-prop : (limits : Limits) (notice : Notice) (advice : Advice)
    → IsProp (IsAllowed limits notice advice)
IsAllowed-prop limits notice Hold = Unit-prop
IsAllowed-prop limits notice (Buy venue price size) =
    TakesIfThere-prop limits notice.national.offer venue price size
IsAllowed-prop limits notice (Sell venue price size) =
    TakesIfThere-prop limits notice.national.bid venue price size
