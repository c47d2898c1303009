use Rattle.std.proofs.Common.{arith, refl}
use Rattle.line_gaps.proofs.MissingLemmas.{fits_first}
use Rattle.line_gaps.proofs.lost_numbers.LostNumbers.renew.Goals as goal

pub returns-clause-fits : goal.returns-clause-fits
returns-clause-fits c =
    fits_first _ c.clear.ensures.none c.clear-2.ensures.none c.clear.ensures.empty
    c.clear-2.ensures.empty refl refl

pub returns-clause-dropped : goal.returns-clause-dropped
returns-clause-dropped c =
    let missing = c.clear.ensures.dropped in
    let given = c.clear-2.ensures.dropped in
    record { missing = omega (arith, missing); given_up = omega (arith, given) }
