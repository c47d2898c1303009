use Rattle.text_out.specs.Members.{writing_of}
use Rattle.std.proofs.Common.{◌≡◌, ℕ, Bool, Option, ap, sym, subst, ◌∙◌}
use Rattle.std.proofs.lemmas.Result.{err_from_is_err_and}
use Rattle.event_sinks.specs.declared.venue_gap.VenueGap.{VenueGap}
use Rattle.line_arbiter.specs.declared.arbiter.ArbiterStatus.{ArbiterStatus}
use Rattle.line_arbiter.specs.Streams.{front_of}
use Rattle.normalising.specs.Keeping.{gap_noted}
use Rattle.normalising.specs.Normalised.{gap_skipped}
use Rattle.normalising.proofs.Venue.{skip_gap, stop_takes}
use Rattle.normalising.proofs.normalised_venue.NormalisedVenue.give_up.Goals as goal

pub returns-in_err-is_given_up-clause-skips : goal.returns-in_err-is_given_up-clause-skips
returns-in_err-is_given_up-clause-skips g c =
    let p = err_from_is_err_and c.from_residual.result c.from_residual.ensures.1 in
    rw (p.1, p.2) (λ feed place h follows form_is.
    stop_takes Bool (Option VenueGap) (writing_of g.W.TextOut) feed c.args.time place _ h
    c.skip_to.new.self c.skip_to.new.self c.args.writer.now c.skip_to.new.writer
    c.args.output.now.page.page
    c.skip_to.new.output.page.page c.in_err-is_given_up.field-0.0
    (c.in_err-is_given_up.ensures.skips feed place h follows form_is))

pub returns-clause-gap : goal.returns-clause-gap
returns-clause-gap g c = λ opening packets fits.
    let number = c.args.number in
    let old = c.args.self.now.normaliser in
    let new = c.skip_to.new.self.normaliser in
    let front = ap (λ (s : ArbiterStatus). s.front) (c.status-front.ensures opening packets fits) in
    let was = c.has_given_up-had_given_up.ensures opening packets fits ∙ sym fits.given_up in
    subst (λ (venue : ℕ). gap_noted c.gap_below.result ≡ gap_skipped venue number
    (front_of packets) old.has_given_up new.has_given_up) c.venue-venue.ensures
    (skip_gap packets c.venue-venue.result number _ old new _ _ c.gap_below.result
    (c.in_ok-is_given_up.ensures.given_up opening packets fits) front was c.gap_below.ensures)
