use Rattle.std.proofs.Common.{refl}
use Rattle.venue_normaliser.proofs.Whole.{begins}
use Rattle.venue_normaliser.proofs.normaliser.VenueNormaliser.new.Goals as goal

pub returns-in-Ok-new-clause-fits : goal.returns-in-Ok-new-clause-fits
returns-in-Ok-new-clause-fits c = begins _ c.in-Ok.ensures.fits c.in-Ok.ensures.made.begun.sent refl
    c.in-Ok-empty_slots.ensures.none c.in-Ok-new.ensures.fits
