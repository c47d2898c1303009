-- What is told of what is missing, of lists that are seen as slices.
use Rattle.std.proofs.Common.{◌≡◌, ℕ, List, subst}
use Rattle.std.specs.Prelude.{Bool, Result}
use Rattle.text_out.specs.Devices.{Writing}
use Rattle.text_out.specs.StandardError.{SaysEach}
use Rattle.event_sinks.specs.declared.venue_gap.VenueGap.{VenueGap}
use Rattle.nbbo_runs.specs.AbsentSymbols.{told_absent}
use Rattle.run_notes.specs.AbsentSymbols.{symbols_with}
use Rattle.nbbo_runs.specs.ReportedGaps.{reported_gaps}

pub tells_items : {S F : Type 0} (w : Writing S) (outcome : Result (Unit {0}) F)
    (is_told due : Bool) (seen items : List VenueGap) (s t : S) → is_told ≡ due → seen ≡ items
    → SaysEach w (reported_gaps outcome is_told seen) s t
    → SaysEach w (reported_gaps outcome due items) s t
tells_items w outcome is_told due seen items s t when same says =
    subst (λ (b : Bool). SaysEach w (reported_gaps outcome b items) s t) when
    (subst (λ (gaps : List VenueGap). SaysEach w (reported_gaps outcome is_told gaps) s t) same
    says)

pub tells_absent : {S F : Type 0} (w : Writing S) (outcome : Result (Unit {0}) F)
    (is_told due : Bool) (seen items : List (List ℕ)) (absent : List ℕ) (s t : S) → is_told ≡ due
    → seen ≡ items → SaysEach w (told_absent outcome is_told (symbols_with absent seen)) s t
    → SaysEach w (told_absent outcome due (symbols_with absent items)) s t
tells_absent w outcome is_told due seen items absent s t when same says =
    subst (λ (b : Bool). SaysEach w (told_absent outcome b (symbols_with absent items)) s t) when
    (subst (λ (symbols : List (List ℕ)).
    SaysEach w (told_absent outcome is_told (symbols_with absent symbols)) s t) same says)
