use Rattle.text_out.specs.Members.{writing_of}
use Rattle.std.proofs.Common.{◌-◌, ◌∙◌, length, drop, subst, arith, length-drop, length-take}
use Rattle.std.proofs.lemmas.List.{take-append-drop, take_all}
use Rattle.normalising.specs.Writes.{PutsFront, PutsPackets}
use Rattle.item_packets.specs.laws.Parts.{taken_rest}
use Rattle.normalising.proofs.Packing.{front_after, front_none, packet_more}
use Rattle.normalising.proofs.Taking.{on_err_any}
use Rattle.normalising.proofs.output_packets.put_messages.Goals as goal

pub packets-preserved : goal.packets-preserved
packets-preserved g c =
    let rest = length-take (length c.args.items.now - c.packets.from)
    (drop c.packets.from c.args.items.now) in
    let left = length-drop c.packets.from c.args.items.now in
    let there = c.write_items-written.ensures.most.there in
    let within = c.packets.invariant.within in
    record {
      within = omega (arith, rest, left, there, within);
      room = c.write_items-written.ensures.room;
      form = c.put_datagram.ensures.form ∙ c.packets.invariant.form;
      puts = λ last its is each. packet_more
          (writing_of g.W.TextOut)
          g.met.W.TextOut.adds_more _ _ c.args.origin.now last c.args.number c.packets.from
          c.write_items-written.result.count c.args.items.now _ its _ _ _ _ _ _ _
          c.packets.invariant.form is each (taken_rest c.args.items.now c.packets.from)
          (c.packets.invariant.puts last its is each) c.write_items-written.ensures.spelled
          c.write_items-written.ensures.carried c.in_ok-put_datagram.ensures.taken;
    }

pub returns-in_err-put_datagram-clause-front : goal.returns-in_err-put_datagram-clause-front
returns-in_err-put_datagram-clause-front g c = on_err_any c.from_residual.result
    (λ last its is each.
    subst (λ ns. PutsFront (writing_of g.W.TextOut) c.args.page.now.form c.args.origin.now last ns
    c.args.writer.now c.put_datagram.new.writer c.args.page.now.page)
    (take-append-drop c.packets.from c.args.items.now)
    (front_after (writing_of g.W.TextOut)
    c.args.page.now.form c.args.origin.now last _ _ _ c.packets.writer _ _ c.packets.page.page
    g.met.W.TextOut.adds_more (c.packets.invariant.puts last its is each)
    (front_none (writing_of g.W.TextOut) c.args.page.now.form c.args.origin.now last
    (drop c.packets.from c.args.items.now) _ _ _
    c.in_err-put_datagram.ensures.part c.in_err-put_datagram.ensures.failed)))

pub returns-clause-put : goal.returns-clause-put
returns-clause-put g c = λ last its is each.
    subst (λ ns. PutsPackets (writing_of g.W.TextOut) c.args.page.now.form c.args.origin.now last ns
    c.args.writer.now c.packets.writer c.args.page.now.page c.packets.page.page)
    (take_all c.packets.from c.args.items.now c.packets-test.false)
    (c.packets.invariant.puts last its is each)
