use Rattle.std.proofs.Common.{◌-◌, length, take, drop, subst, arith, length-drop, length-take}
use Rattle.std.proofs.lemmas.List.{take_all}
use Rattle.item_packets.specs.Packed.{AddsPacked}
use Rattle.item_packets.specs.laws.Adding.{adds_none, packet_more}
use Rattle.item_packets.specs.laws.Parts.{taken_rest}
use Rattle.item_packets.proofs.packing.put_messages.Goals as goal

pub packets-preserved : goal.packets-preserved
packets-preserved c =
    let rest = length-take (length c.args.items.now - c.packets.from)
    (drop c.packets.from c.args.items.now) in
    let left = length-drop c.packets.from c.args.items.now in
    let there = c.write_items-written.ensures.most.there in
    let within = c.packets.invariant.within in
    record {
      within = omega (arith, rest, left, there, within);
      room = c.write_items-written.ensures.room;
      puts = λ its is each. packet_more c.args.session.now c.args.number c.packets.from
          c.write_items-written.result.count c.args.items.now _ its _ _ _ _ is each
          (taken_rest c.args.items.now c.packets.from) (c.packets.invariant.puts its is each)
          c.write_items-written.ensures.spelled c.write_items-written.ensures.carried
          c.in_ok-push_datagram.ensures;
    }

pub returns-clause-put : goal.returns-clause-put
returns-clause-put c = λ its is each.
    subst (λ ns. AddsPacked c.args.session.now ns c.args.out.now.items c.packets.out.items)
    (take_all c.packets.from c.args.items.now c.packets-test.false)
    (c.packets.invariant.puts its is each)
