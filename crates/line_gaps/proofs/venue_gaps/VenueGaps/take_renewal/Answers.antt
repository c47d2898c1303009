use Rattle.std.proofs.Common.{refl}
use Rattle.line_gaps.specs.OpenGaps.{in_session}
use Rattle.line_gaps.proofs.EndLemmas.{venue_keeps}
use Rattle.line_gaps.proofs.VenueLemmas.{nothing_timed, renewed_timed, says_nothing}
use Rattle.line_gaps.proofs.venue_gaps.VenueGaps.take_renewal.Goals as goal

pub returns-in-Ok-clause-takes : goal.returns-in-Ok-clause-takes
returns-in-Ok-clause-takes c = λ earlier time venue fits.
    rw c.in-Ok.is
    (renewed_timed earlier time venue _ c.args.self.now c.renew.new.self
    c.args.ended.now.gaps.items c.renew.new.ended.gaps.items c.requires
    (c.renew.ensures.fits (in_session earlier) fits)
    (λ w. c.renew.ensures.just (in_session earlier) _ refl fits w))

pub returns-in-Err-clause-ends : goal.returns-in-Err-clause-ends
returns-in-Err-clause-ends c = venue_keeps _ _ c.args.ended.now refl refl refl

pub returns-in-Err-clause-takes : goal.returns-in-Err-clause-takes
returns-in-Err-clause-takes c = λ earlier time venue fits.
    rw c.in-Err.is
    (nothing_timed earlier _ c.args.self.now c.args.ended.now.gaps.items
    (says_nothing (in_session earlier) _ refl (λ n. refl) (λ n. refl) refl refl) refl refl
    (λ line. refl) c.requires fits)
