use Rattle.std.proofs.Common.{◌∷◌, false, subst, sym, ◌∙◌}
use Rattle.line_gaps.specs.declared.lost_numbers.LostNumbers.{LostNumbers}
use Rattle.line_gaps.specs.Gaps.{is_missing}
use Rattle.line_gaps.specs.Missing.{FitsLost}
use Rattle.line_gaps.proofs.MissingLemmas.{and_true}
use Rattle.line_gaps.proofs.SessionLemmas.{stays_heard}
use Rattle.line_gaps.proofs.VenueLemmas.{come_idle, venue_heard}
use Rattle.line_gaps.proofs.venue_gaps.VenueGaps.take_numbers.Goals as goal

pub returns-clause-missing : goal.returns-clause-missing
returns-clause-missing c = λ events last counts fits.
    subst (λ (l : LostNumbers). FitsLost (last ∷ events) l) (sym c.pass.ensures.lost)
    (c.take_numbers.ensures.fits events last counts fits)

pub returns-clause-takes : goal.returns-clause-takes
returns-clause-takes c = λ earlier last counts heard fits.
    let old = c.args.self.now in
    let packet = c.args.packet in
    venue_heard earlier last packet false c.take_numbers.new.self old c.pass.new.self
    c.args.ended.now.gaps.items c.pass.new.ended.gaps.items heard fits
    (c.take_numbers.ensures.fits earlier last counts fits.lost) c.take_numbers.ensures.dropped
    c.pass.ensures.lost c.pass.ensures.far
    (c.pass.ensures.come
    ∙ come_idle earlier last counts.has_no_messages old.has_come fits.come)
    (λ whole unfilled.
    stays_heard earlier last packet old.lost (λ n. false) heard.counts counts.passes_none
    counts.brings_none fits.lost (λ n. sym (and_true (is_missing earlier n))))
    (λ filled. cc filled)
    c.pass.ensures.a c.pass.ensures.b c.pass.ensures.all c.pass.ensures.ended
