use Rattle.std.proofs.Common.{refl, ◌∙◌}
use Rattle.line_gaps.proofs.EndLemmas.{venue_same}
use Rattle.line_gaps.proofs.VenueLemmas.{closed_just, far_none, fits_none, whole_back}
use Rattle.line_gaps.proofs.venue_gaps.VenueGaps.renew.Goals as goal

pub returns-clause-ends : goal.returns-clause-ends
returns-clause-ends c =
    venue_same _ c.close.new.self _ _ _ c.close.ensures.ends c.renew.ensures.sums
    c.renew-2.ensures.sums c.renew-3.ensures.sums

pub returns-clause-fits : goal.returns-clause-fits
returns-clause-fits c = λ events fits.
    let closed = c.close.ensures in
    fits_none _ c.renew-4.ensures.fits
    (λ w. c.renew.ensures.line ∙ closed.a.line
    ∙ (fits.a (whole_back _ _ _ closed.lost c.renew-4.ensures.dropped w)).line_is)
    (λ w. c.renew-2.ensures.line ∙ closed.b.line
    ∙ (fits.b (whole_back _ _ _ closed.lost c.renew-4.ensures.dropped w)).line_is)
    (λ w. c.renew-3.ensures.line ∙ closed.all.line
    ∙ (fits.all (whole_back _ _ _ closed.lost c.renew-4.ensures.dropped w)).line_is)
    (record {
      begun = c.renew.ensures.begun;
      highest = c.renew.ensures.highest;
      «open» = rw c.renew.ensures.«open» closed.a.«open»;
    })
    (record {
      begun = c.renew-2.ensures.begun;
      highest = c.renew-2.ensures.highest;
      «open» = rw c.renew-2.ensures.«open» closed.b.«open»;
    })
    (record {
      begun = c.renew-3.ensures.begun;
      highest = c.renew-3.ensures.highest;
      «open» = rw c.renew-3.ensures.«open» closed.all.«open»;
    })
    (far_none _ c.all-self.ensures) refl

pub returns-clause-just : goal.returns-clause-just
returns-clause-just c = λ earlier last closes fits whole.
    let closed = c.close.ensures in
    closed_just earlier last c.args.self.now c.close.new.self _ c.args.ended.now.gaps.items _
    closes fits (whole_back _ _ _ closed.lost c.renew-4.ensures.dropped whole) closed.a closed.b
    closed.all c.renew.ensures.sums c.renew-2.ensures.sums c.renew-3.ensures.sums closed.ended
