use Rattle.std.proofs.Common.{refl}
use Rattle.std.proofs.lemmas.Result.{on_ok_weaker}
use Rattle.item_packets.specs.laws.Adding.{row_added}
use Rattle.item_packets.specs.laws.Parts.{taken_rest}
use Rattle.item_packets.proofs.packing.PackingRoom.pack.Goals as goal

pub returns : goal.returns
returns c = on_ok_weaker c.put_end.result
    (λ ends first one run.
    row_added c.args.session.now first c.messages_before_end-count.result c.args.items.now _ _ _ _ _
    run one (c.messages_before_end-count.ensures.count first run) refl
    (taken_rest c.args.items.now c.messages_before_end-count.result)
    c.in_ok-put_run.ensures.put ends) c.put_end.ensures.put
