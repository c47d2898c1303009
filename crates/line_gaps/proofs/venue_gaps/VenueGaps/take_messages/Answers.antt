use Rattle.std.proofs.Common.{refl, sym, ◌∙◌}
use Rattle.line_gaps.proofs.MissingLemmas.{same_lost}
use Rattle.line_gaps.proofs.SessionLemmas.{packet_skips_none, stays_taken}
use Rattle.line_gaps.proofs.VenueLemmas.{fits_but, venue_heard}
use Rattle.line_gaps.proofs.venue_gaps.VenueGaps.take_messages.Goals as goal

pub returns-clause-missing : goal.returns-clause-missing
returns-clause-missing c = λ events venue bytes repeated fits.
    same_lost events _ _ _ c.pass.ensures.lost
    (c.take_messages-is_filled.ensures.fits events venue bytes c.args.new repeated fits)

pub returns-clause-takes : goal.returns-clause-takes
returns-clause-takes c = λ earlier venue bytes repeated fits.
    let said = c.take_messages-is_filled.ensures in
    let old = c.args.self.now in
    let packet = c.args.packet.now in
    venue_heard earlier _ packet c.take_messages-is_filled.result c.take_messages-is_filled.new.self
    old c.pass.new.self c.args.ended.now.gaps.items c.pass.new.ended.gaps.items
    (record {
      counts = refl;
      goes_on = refl;
      skips_none = λ begun highest. packet_skips_none begun highest _ _ _ _ _ _;
    })
    (fits_but earlier _ old fits (λ line. refl))
    (said.fits earlier venue bytes c.args.new repeated fits.lost) said.dropped
    c.pass.ensures.lost c.pass.ensures.far c.pass.ensures.come
    (λ whole unfilled.
    stays_taken earlier packet venue bytes c.args.new repeated old.lost fits.lost whole.missing
    (sym said.found ∙ unfilled))
    (λ filled. record { by = refl; time = refl })
    c.pass.ensures.a c.pass.ensures.b c.pass.ensures.all c.pass.ensures.ended
