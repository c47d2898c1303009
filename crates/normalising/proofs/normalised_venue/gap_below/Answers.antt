use Rattle.std.proofs.Common.{◌≡◌, ℕ, ◌+◌, ◌-◌, List, [], ◌∷◌, ap, ap₂, arith, ◌∙◌}
use Rattle.event_sinks.specs.declared.venue_gap.VenueGap.{VenueGap}
use Rattle.normalising.proofs.normalised_venue.gap_below.Goals as goal

pub returns : goal.returns
returns c = λ below.
    let past = below c.if-not-is_given_up.false in
    let sum = c.saturating_add-first.ensures in
    let small = c.ranges.number.fits in
    let first : c.saturating_add-first.result ≡ c.args.front + 1 = omega arith in
    let count : c.saturating_sub.result ≡ c.args.number - (c.args.front + 1) =
    c.saturating_sub.ensures ∙ ap (λ (n : ℕ). c.args.number - n) first in
    let made : ℕ → ℕ → List VenueGap =
    λ a b. record { venue = c.args.venue; messages = record { first = a; count = b } } ∷ [] in
    rw (c.if-had_given_up.false, c.if-not-is_given_up.false) (ap₂ made first count)
