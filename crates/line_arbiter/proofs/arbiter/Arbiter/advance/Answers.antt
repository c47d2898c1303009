use Rattle.line_arbiter.proofs.Standing.{stands_of, fits_of}
use Rattle.line_arbiter.proofs.Nexts.{advance_fits}
use Rattle.line_arbiter.proofs.arbiter.Arbiter.advance.Goals as goal

pub returns-clause-fits : goal.returns-clause-fits
returns-clause-fits g c packets fits = fits_of (advance_fits _ _ packets c.drop_next.ensures.sound
    c.requires c.drop_next.ensures.after (stands_of fits))
