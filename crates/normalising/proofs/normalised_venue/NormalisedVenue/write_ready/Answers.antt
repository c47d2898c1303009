use Rattle.text_out.specs.Members.{writing_of}
use Rattle.std.proofs.Common.{sym, subst}
use Rattle.std.proofs.lemmas.Result.{err_from_is_err_and}
use Rattle.normalising.specs.Carried.{RunsFrom}
use Rattle.normalising.specs.Writes.{PutsFront, PutsPackets, origin_of}
use Rattle.normalising.proofs.normalised_venue.NormalisedVenue.write_ready.Goals as goal

pub returns-clause-put : goal.returns-clause-put
returns-clause-put g c = λ last first one run.
    subst (λ xs. PutsPackets (writing_of g.W.TextOut)
    c.args.output.now.page.form (origin_of c.args.self.now.normaliser c.args.time) last xs
    c.args.writer.now c.put_items.new.writer c.args.output.now.page.page
    c.put_items.new.self.page.page) c.as_slice-items.ensures.value
    (subst (λ o. PutsPackets (writing_of g.W.TextOut)
    c.args.output.now.page.form o last c.as_slice-items.result.now
    c.args.writer.now c.put_items.new.writer c.args.output.now.page.page
    c.put_items.new.self.page.page) c.origin_at-origin.ensures
    (c.in_ok-put_items.ensures.put last first one
    (subst (λ xs. RunsFrom first xs) (sym c.as_slice-items.ensures.value) run)))

pub returns-in_err-put_items-clause-stopped : goal.returns-in_err-put_items-clause-stopped
returns-in_err-put_items-clause-stopped g c =
    let p = err_from_is_err_and c.from_residual.result c.from_residual.ensures.1 in
    rw (p.1, p.2) (λ last first one run.
    subst (λ xs. PutsFront (writing_of g.W.TextOut)
    c.args.output.now.page.form (origin_of c.args.self.now.normaliser c.args.time) last xs
    c.args.writer.now c.put_items.new.writer c.args.output.now.page.page)
    c.as_slice-items.ensures.value
    (subst (λ o. PutsFront (writing_of g.W.TextOut)
    c.args.output.now.page.form o last c.as_slice-items.result.now
    c.args.writer.now c.put_items.new.writer c.args.output.now.page.page)
    c.origin_at-origin.ensures
    (c.in_err-put_items.ensures.front last first one
    (subst (λ xs. RunsFrom first xs) (sym c.as_slice-items.ensures.value) run))))
