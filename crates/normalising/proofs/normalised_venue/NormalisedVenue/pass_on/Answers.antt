use Rattle.text_out.specs.Members.{writing_of}
use Rattle.std.proofs.Common.{[], ◌∙◌, sym, ap, arith, subst}
use Rattle.std.proofs.lemmas.Result.{err_from_is_err_and}
use Rattle.line_arbiter.specs.declared.arbiter.ArbiterStatus.{ArbiterStatus}
use Rattle.normalising.specs.Carried.{last_put}
use Rattle.normalising.specs.Writes.{PutsFront, PutsPackets}
use Rattle.normalising.proofs.Heartbeats.{last_front}
use Rattle.normalising.proofs.Packing.{puts_none}
use Rattle.normalising.proofs.normalised_venue.NormalisedVenue.pass_on.Goals as goal

pub returns-in_default-clause-put : goal.returns-in_default-clause-put
returns-in_default-clause-put g c = λ opening packets fits. puts_none _ g.met.W.TextOut.adds_none _
    _ _ _ _

pub returns-in_err-put_empty-clause-stopped : goal.returns-in_err-put_empty-clause-stopped
returns-in_err-put_empty-clause-stopped g c =
    let p = err_from_is_err_and c.from_residual.result c.from_residual.ensures.1 in
    rw (p.1, p.2) (λ opening packets fits.
    subst (λ o. PutsFront (writing_of g.W.TextOut)
    c.args.output.now.page.form o (last_put opening packets) [] c.args.writer.now
    c.put_empty.new.writer c.args.output.now.page.page) c.origin_at-origin.ensures
    (c.in_err-put_empty.ensures.front (last_put opening packets)))

pub returns-clause-put : goal.returns-clause-put
returns-clause-put g c = λ opening packets fits.
    let front = ap (λ (s : ArbiterStatus). s.front)
    (c.status-status.ensures opening packets fits) in
    let last = last_front opening packets
    (sym (c.has_given_up.ensures opening packets fits) ∙ c.if-has_given_up.false) in
    subst (λ o. PutsPackets (writing_of g.W.TextOut)
    c.args.output.now.page.form o (last_put opening packets) [] c.args.writer.now
    c.put_empty.new.writer c.args.output.now.page.page c.put_empty.new.self.page.page)
    c.origin_at-origin.ensures
    (c.in_ok-put_empty.ensures.put (last_put opening packets)
    (λ beat. omega (arith, front, last, c.in-Some-checked_add.ensures)))
