use Rattle.std.proofs.Common.{◌∙◌, sym}
use Rattle.venue_normaliser.proofs.Numbers.{no_number_great, no_number_zero}
use Rattle.venue_normaliser.proofs.snapshot.number_in.Goals as goal

pub returns-in_err-from-clause-none : goal.returns-in_err-from-clause-none
returns-in_err-from-clause-none c = rw c.from_residual.ensures
    (λ number is one most. c.in_err-from.ensures.none is.from is.to is.there)

pub returns-in_err-number-clause-none : goal.returns-in_err-number-clause-none
returns-in_err-number-clause-none c = rw c.from_residual-in_err-number.ensures
    (λ number is one most. no_number_great _ _ _ c.in_ok-from.ensures.found
    c.in_err-number.ensures.greater number is most)

pub returns-then-number-eq0-clause-none : goal.returns-then-number-eq0-clause-none
returns-then-number-eq0-clause-none c = λ number is one most.
    no_number_zero _ _ _ c.in_ok-from.ensures.found
    (sym c.in_ok-number.ensures.is ∙ c.if-number-eq0.true) number is one
