use Rattle.line_gaps.proofs.EndLemmas.{venue_ends}
use Rattle.line_gaps.proofs.LineLemmas.{all_over}
use Rattle.line_gaps.proofs.VenueLemmas.{venue_skipped}
use Rattle.std.proofs.Common.{refl}
use Rattle.line_gaps.proofs.venue_gaps.VenueGaps.skip_to.Goals as goal

pub returns-clause-ends : goal.returns-clause-ends
returns-clause-ends c =
    venue_ends _ _ _ _ _ _ c.skip.ensures.ends c.skip-2.ensures.ends
    c.skip-3.ensures.ends

pub returns-clause-missing : goal.returns-clause-missing
returns-clause-missing c = λ events venue fits.
    c.give_up-count.ensures.fits events c.args.time venue fits

pub returns-clause-takes : goal.returns-clause-takes
returns-clause-takes c = λ earlier venue fits.
    venue_skipped earlier c.args.time venue c.args.number c.joined_at-joined.result
    c.give_up-count.new.self c.args.self.now _
    c.args.ended.now.gaps.items _ fits
    (c.give_up-count.ensures.fits earlier c.args.time venue fits.lost)
    c.give_up-count.ensures.dropped refl refl refl c.joined_at-joined.ensures
    c.skip.ensures.skips c.skip-2.ensures.skips
    c.skip-3.ensures.skips
    (all_over _ c.skip.new.ended.gaps.items c.skip-2.new.ended.gaps.items _ _ _ _
    c.skip.ensures.ended c.skip-2.ensures.ended c.skip-3.ensures.ended)
