use Rattle.text_out.specs.Members.{writing_of}
use Rattle.std.proofs.Common.{Bool, true, false, ◌∙◌, refl, subst}
use Rattle.std.proofs.lemmas.Result.{err_from_is_err_and}
use Rattle.capture_records.specs.Capture.{renewal_record}
use Rattle.normalising.specs.Texts.{record_text}
use Rattle.normalising.specs.Writes.{PutsText}
use Rattle.normalising.proofs.Venue.{no_renewal, renewal_begun, renewal_failed}
use Rattle.normalising.proofs.normalised_venue.NormalisedVenue.renew.Goals as goal

pub returns-in_err-renew-clause-renews : goal.returns-in_err-renew-clause-renews
returns-in_err-renew-clause-renews g c =
    let p = err_from_is_err_and c.from_residual.result c.from_residual.ensures.1 in
    rw (p.1, p.2) (λ feed time place h follows form_is. (refl, refl))

pub returns-in-Err-clause-renews : goal.returns-in-Err-clause-renews
returns-in-Err-clause-renews g c = λ feed time place h follows form_is.
    no_renewal (writing_of g.W.TextOut)
    g.met.W.TextOut.adds_none feed time place c.args.session h c.args.self.now
    _ _ c.args.writer.now c.args.output.now.page.page false follows
    (rw c.in-Err.is at c.in_ok-renew.ensures.answer)
    (rw c.in-Err.is at c.in_ok-renew.ensures.refused) refl

pub returns-in_err-put_renewal-in-Ok-clause-renews :
    goal.returns-in_err-put_renewal-in-Ok-clause-renews
returns-in_err-put_renewal-in-Ok-clause-renews g c =
    let p = err_from_is_err_and c.from_residual-in_err-put_renewal-in-Ok.result
    c.from_residual-in_err-put_renewal-in-Ok.ensures.1 in
    rw (p.1, p.2) (λ feed time place h follows form_is.
    renewal_failed (writing_of g.W.TextOut)
    feed time place c.args.session h c.args.self.now c.args.self.now _
    c.args.output.now.page.form c.args.writer.now c.put_renewal.new.writer
    c.args.output.now.page.page c.put_renewal.new.self.page.page follows form_is
    (rw c.in-Ok.is at c.in_ok-renew.ensures.answer) Bool
    c.in_err-put_renewal-in-Ok.field-0.0 c.in_err-put_renewal-in-Ok.ensures.part
    c.in_err-put_renewal-in-Ok.ensures.failed)

pub returns-in_ok-put_renewal-in-Ok-clause-renews :
    goal.returns-in_ok-put_renewal-in-Ok-clause-renews
returns-in_ok-put_renewal-in-Ok-clause-renews g c = λ feed time place h follows form_is.
    let renewed = rw c.in-Ok.is at c.in_ok-renew.ensures.renewed in
    renewal_begun (writing_of g.W.TextOut)
    feed time place c.args.session h c.args.self.now _ _
    c.args.output.now.page.form c.args.writer.now c.put_renewal.new.writer
    c.args.output.now.page.page c.put_renewal.new.self.page.page follows form_is
    (rw c.in-Ok.is at c.in_ok-renew.ensures.answer) true
    (rw c.in-Ok.is at c.in_ok-renew.ensures.fits) renewed c.in_ok-renew.ensures.kept
    c.clear.ensures.items
    (subst (λ venue. PutsText (writing_of g.W.TextOut)
    c.args.writer.now c.put_renewal.new.writer c.args.output.now.page.page
    (record_text c.args.output.now.page.form (renewal_record venue c.args.session))
    c.put_renewal.new.self.page.page)
    (c.venue.ensures ∙ renewed.venue ∙ follows.venue)
    c.in_ok-put_renewal-in-Ok.ensures.taken)
