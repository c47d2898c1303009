use Rattle.text_out.specs.Members.{writing_of}
use Rattle.normalising.proofs.Packing.{empty_packet, front_on_err}
use Rattle.std.proofs.lemmas.Result.{on_ok_weaker}
use Rattle.normalising.proofs.output_packets.put_without_messages.Goals as goal

pub returns-clause-put : goal.returns-clause-put
returns-clause-put g c = on_ok_weaker c.put_datagram.result
    (λ taken last beat. empty_packet
    (writing_of g.W.TextOut)
    c.args.page.now.form c.args.origin.now last c.args.number c.args.body _ _ _ _ _
    c.requires.empty c.in-Ok.ensures.spelled taken beat) c.put_datagram.ensures.taken

pub returns-clause-front : goal.returns-clause-front
returns-clause-front g c = front_on_err
    (writing_of g.W.TextOut) _ _ _ _ _ _
    c.put_datagram.result c.put_datagram.ensures.part c.put_datagram.ensures.failed
