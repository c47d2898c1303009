-- What one more venue lacks.
use Rattle.std.proofs.Common.{◌≡◌, ℕ, zero, suc, ◌+◌, List, [], ◌∷◌, ◌++◌, take, Some, ap, sym, ◌∙◌, arith, append-nil, append_assoc}
use Rattle.std.specs.Prelude.{slice_get}
use Rattle.event_sinks.specs.VenueGaps.{venue_gap}
use Rattle.live_feed.specs.settle.Settlements.{VenueEndState}
use Rattle.udp_listening.specs.SettledLacks.{lacks_from}

pub lacks_more : (first n : ℕ) (venues : List VenueEndState) (v : VenueEndState)
    → slice_get venues n ≡ Some v
    → lacks_from first (take (suc n) venues)
    ≡ lacks_from first (take n venues) ++ venue_gap (first + n) v.gap
lacks_more first n [] v at = absurd cc
lacks_more first zero (x ∷ venues) v at =
    let same : x ≡ v = cc in
    let here : first ≡ first + 0 = omega arith in
    append-nil (venue_gap first x.gap)
    ∙ ap (λ (y : VenueEndState). venue_gap first y.gap) same
    ∙ ap (λ (k : ℕ). venue_gap k v.gap) here
lacks_more first (suc n) (x ∷ venues) v at =
    let here : first + 1 + n ≡ first + suc n = omega arith in
    ap (λ l. venue_gap first x.gap ++ l) (lacks_more (first + 1) n venues v at)
    ∙ sym (append_assoc (venue_gap first x.gap) _ (venue_gap (first + 1 + n) v.gap))
    ∙ ap (λ (k : ℕ). (venue_gap first x.gap ++ lacks_from (first + 1) (take n venues))
    ++ venue_gap k v.gap) here
