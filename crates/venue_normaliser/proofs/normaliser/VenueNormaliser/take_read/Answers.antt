use Rattle.venue_normaliser.proofs.Whole.{takes}
use Rattle.venue_normaliser.proofs.normaliser.VenueNormaliser.take_read.Goals as goal

pub returns-clause-fits : goal.returns-clause-fits
returns-clause-fits c = λ O P fits.
    (takes _ _ _ O P _ _ _ _ _ _ fits (c.in_ok-answer.ensures.brings O P fits)
    c.in_ok-finish.ensures.ready c.in_ok-finish.ensures.dropped c.in_ok-finish.ensures.kept).fits

pub returns-clause-output : goal.returns-clause-output
returns-clause-output c = λ O P fits.
    (takes _ _ _ O P _ _ _ _ _ _ fits (c.in_ok-answer.ensures.brings O P fits)
    c.in_ok-finish.ensures.ready c.in_ok-finish.ensures.dropped c.in_ok-finish.ensures.kept).output

pub returns-clause-outcome : goal.returns-clause-outcome
returns-clause-outcome c = λ O P fits. (c.in_ok-answer.ensures.brings O P fits).outcome
