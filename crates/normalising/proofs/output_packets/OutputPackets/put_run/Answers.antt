use Rattle.text_out.specs.Members.{writing_of}
use Rattle.std.proofs.Common.{◌∙◌, ap, sym, subst}
use Rattle.std.proofs.lemmas.Result.{on_ok_weaker}
use Rattle.feed_types.specs.Sessions.{numbered_from}
use Rattle.normalising.proofs.Packing.{on_err_weaker_of, puts_none}
use Rattle.normalising.specs.Writes.{PutsPackets}
use Rattle.normalising.proofs.output_packets.OutputPackets.put_run.Goals as goal

pub returns-in_default-clause-put : goal.returns-in_default-clause-put
returns-in_default-clause-put g c = λ last first its one is each.
    subst (λ ns. PutsPackets (writing_of g.W.TextOut)
    c.args.self.now.page.form c.args.origin.now last ns c.args.writer.now c.args.writer.now
    c.args.self.now.page.page c.args.self.now.page.page)
    (sym (c.in_default.ensures.none first its one is))
    (puts_none _ g.met.W.TextOut.adds_none _ _ _ _ _)

pub returns-clause-put : goal.returns-clause-put
returns-clause-put g c = on_ok_weaker c.put_messages.result
    (λ put last first its one is each. put last its (is
    ∙ ap (λ n. numbered_from n its) (sym (c.in-Some.ensures.first first its is))) each)
    c.put_messages.ensures.put

pub returns-clause-front : goal.returns-clause-front
returns-clause-front g c = on_err_weaker_of c.put_messages.result
    (λ front last first its one is each. front last its (is
    ∙ ap (λ n. numbered_from n its) (sym (c.in-Some.ensures.first first its is))) each)
    c.put_messages.ensures.front
