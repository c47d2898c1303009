use Rattle.std.proofs.Common.{refl}
use Rattle.venue_normaliser.proofs.Whole.{begins}
use Rattle.venue_normaliser.proofs.normaliser.VenueNormaliser.renew.Goals as goal

pub returns-clause-fits : goal.returns-clause-fits
returns-clause-fits c = begins _ c.in-Ok.ensures.fits c.in-Ok.ensures.ok.begun.sent refl
    c.clear.ensures.none c.in_ok-self-inside.ensures.fits
