use Rattle.text_out.specs.Members.{writing_of}
use Rattle.std.proofs.Common.{◌∙◌, sym, subst}
use Rattle.std.proofs.lemmas.Result.{on_ok_weaker}
use Rattle.normalising.specs.Carried.{last_put}
use Rattle.normalising.specs.Writes.{PutsPackets, origin_of}
use Rattle.normalising.proofs.Packing.{if_err_weaker, puts_none}
use Rattle.normalising.proofs.normalised_venue.NormalisedVenue.write_more.Goals as goal

pub returns-then-is_none_ready-clause-put : goal.returns-then-is_none_ready-clause-put
returns-then-is_none_ready-clause-put g c = λ opening packets first fits one run.
    subst (λ xs. PutsPackets (writing_of g.W.TextOut)
    c.args.output.now.page.form (origin_of c.args.self.now.normaliser c.args.time)
    (last_put opening packets) xs c.args.writer.now c.args.writer.now
    c.args.output.now.page.page c.args.output.now.page.page)
    (sym (sym c.as_slice.ensures.value ∙ c.if-is_none_ready.ensures))
    (puts_none _ g.met.W.TextOut.adds_none _ _ _ _ _)

pub returns-clause-put : goal.returns-clause-put
returns-clause-put g c = on_ok_weaker c.write_ready.result
    (λ put opening packets first fits one run. put (last_put opening packets) first one run)
    c.write_ready.ensures.put

pub returns-clause-stopped : goal.returns-clause-stopped
returns-clause-stopped g c = if_err_weaker c.write_ready.result
    (λ stop stopped opening packets first fits one run.
    stopped (last_put opening packets) first one run)
    c.write_ready.ensures.stopped
