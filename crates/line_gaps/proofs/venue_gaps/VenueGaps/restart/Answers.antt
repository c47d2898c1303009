use Rattle.line_gaps.proofs.VenueLemmas.{fits_restarted}
use Rattle.line_gaps.proofs.venue_gaps.VenueGaps.restart.Goals as goal

pub returns-clause-fits : goal.returns-clause-fits
returns-clause-fits c = λ events fits. fits_restarted _ c.args.self.now _ _ _ _ fits
