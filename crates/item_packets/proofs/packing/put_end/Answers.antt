use Rattle.std.proofs.Common.{refl, sym, subst}
use Rattle.std.proofs.lemmas.Result.{on_ok_weaker}
use Rattle.item_packets.specs.Packed.{AddsPacked}
use Rattle.item_packets.specs.laws.Adding.{adds_none, adds_one}
use Rattle.item_packets.proofs.packing.put_end.Goals as goal

pub returns-in_default-clause-put : goal.returns-in_default-clause-put
returns-in_default-clause-put c = λ number one has.
    subst (λ xs. AddsPacked c.args.session.now xs c.args.out.now.items c.args.out.now.items)
    (sym (c.in_default.ensures.none number one has))
    (adds_none c.args.session.now c.args.out.now.items)

pub returns-clause-put : goal.returns-clause-put
returns-clause-put c = on_ok_weaker c.push_datagram.result
    (λ added number one has.
    subst (λ xs. AddsPacked c.args.session.now xs c.args.out.now.items
    c.push_datagram.new.out.items)
    (sym (c.in-Some.ensures.number number one has))
    (adds_one c.args.session.now _ _ c.args.out.now.items c.push_datagram.new.out.items
    c.in-Ok.ensures.spelled refl (λ e. absurd cc) added)) c.push_datagram.ensures
