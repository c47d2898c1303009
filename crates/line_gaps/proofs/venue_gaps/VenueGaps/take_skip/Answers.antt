use Rattle.std.proofs.Common.{refl}
use Rattle.line_gaps.proofs.EndLemmas.{venue_keeps}
use Rattle.line_gaps.proofs.VenueLemmas.{fits_but, says_nothing, venue_idle}
use Rattle.line_gaps.proofs.venue_gaps.VenueGaps.take_skip.Goals as goal

pub returns-in-Ok-clause-takes : goal.returns-in-Ok-clause-takes
returns-in-Ok-clause-takes c = λ earlier venue fits.
    rw c.in-Ok.is (c.skip_to.ensures.takes earlier venue fits)

pub returns-in-Err-clause-ends : goal.returns-in-Err-clause-ends
returns-in-Err-clause-ends c = venue_keeps _ _ c.args.ended.now refl refl refl

pub returns-in-Err-clause-takes : goal.returns-in-Err-clause-takes
returns-in-Err-clause-takes c = λ earlier venue fits.
    rw c.in-Err.is
    (venue_idle earlier _ c.args.self.now c.args.self.now c.args.ended.now.gaps.items
    (says_nothing earlier _ refl (λ n. refl) (λ n. refl) refl refl) refl
    (fits_but earlier _ c.args.self.now fits (λ line. refl)) refl refl refl refl refl refl)
