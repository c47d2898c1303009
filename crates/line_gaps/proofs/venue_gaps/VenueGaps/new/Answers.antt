use Rattle.std.proofs.Common.{refl}
use Rattle.line_gaps.proofs.VenueLemmas.{far_none, fits_none}
use Rattle.line_gaps.proofs.venue_gaps.VenueGaps.new.Goals as goal

pub returns-clause-fits : goal.returns-clause-fits
returns-clause-fits c =
    let a = c.new.ensures in
    let b = c.new-2.ensures in
    let all = c.new-3.ensures in
    fits_none _ c.new-4.ensures (λ w. a.line) (λ w. b.line) (λ w. all.line)
    (record { begun = a.begun; highest = a.highest; «open» = a.«open» })
    (record { begun = b.begun; highest = b.highest; «open» = b.«open» })
    (record { begun = all.begun; highest = all.highest; «open» = all.«open» })
    (far_none _ c.all.ensures) refl
