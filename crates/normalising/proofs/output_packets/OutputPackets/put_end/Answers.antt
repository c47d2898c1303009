use Rattle.text_out.specs.Members.{writing_of}
use Rattle.std.proofs.Common.{sym, subst}
use Rattle.std.proofs.lemmas.Result.{on_ok_weaker}
use Rattle.normalising.specs.Writes.{PutsFront, PutsPackets}
use Rattle.normalising.proofs.Packing.{on_err_weaker_of, puts_none}
use Rattle.normalising.proofs.output_packets.OutputPackets.put_end.Goals as goal

pub returns-in_default-clause-put : goal.returns-in_default-clause-put
returns-in_default-clause-put g c = λ last number one has.
    subst (λ xs. PutsPackets (writing_of g.W.TextOut)
    c.args.self.now.page.form c.args.origin.now last xs c.args.writer.now c.args.writer.now
    c.args.self.now.page.page c.args.self.now.page.page)
    (sym (c.in_default.ensures.none number one has))
    (puts_none _ g.met.W.TextOut.adds_none _ _ _ _ _)

pub returns-clause-put : goal.returns-clause-put
returns-clause-put g c = on_ok_weaker c.put_empty.result
    (λ put last number one has.
    subst (λ xs. PutsPackets (writing_of g.W.TextOut)
    c.args.self.now.page.form c.args.origin.now last xs c.args.writer.now c.put_empty.new.writer
    c.args.self.now.page.page c.put_empty.new.self.page.page)
    (sym (c.in-Some.ensures.number number one has))
    (put last (λ e. absurd cc))) c.put_empty.ensures.put

pub returns-clause-front : goal.returns-clause-front
returns-clause-front g c = on_err_weaker_of c.put_empty.result
    (λ front last number one has.
    subst (λ xs. PutsFront (writing_of g.W.TextOut)
    c.args.self.now.page.form c.args.origin.now last xs c.args.writer.now c.put_empty.new.writer
    c.args.self.now.page.page)
    (sym (c.in-Some.ensures.number number one has))
    (front last)) c.put_empty.ensures.front
