use Rattle.std.proofs.Common.{◌∙◌, refl, ap, sym}
use Rattle.std.specs.Prelude.{option_map}
use Rattle.normalising.specs.Reported.{missing_by}
use Rattle.normalising.proofs.normalised_venue.NormalisedVenue.missing.Goals as goal

pub returns-then-has_given_up : goal.returns-then-has_given_up
returns-then-has_given_up c = λ opening packets fits.
    rw (sym (c.has_given_up.ensures opening packets fits) ∙ c.if-has_given_up.true) refl

pub returns-in_default : goal.returns-in_default
returns-in_default c = λ opening packets fits.
    rw (sym (c.has_given_up.ensures opening packets fits) ∙ c.if-has_given_up.false)
    (ap (option_map missing_by) (sym c.in_default.is ∙ c.gap.ensures opening packets fits))

pub returns : goal.returns
returns c = λ opening packets fits.
    rw (sym (c.has_given_up.ensures opening packets fits) ∙ c.if-has_given_up.false)
    (ap (option_map missing_by) (sym c.in-Some.is ∙ c.gap.ensures opening packets fits))
