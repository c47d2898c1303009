use Rattle.std.proofs.Common.{arith}
use Rattle.venue_normaliser.proofs.Making.{numbered_more}
use Rattle.venue_normaliser.proofs.opening.put_items.Goals as goal

pub loop-item-preserved : goal.loop-item-preserved
loop-item-preserved c = record {
  number = let at = c.loop-item.invariant.number in omega arith;
  put = numbered_more _ _ _ _ _ _ _ _ c.loop-item-test.true c.item-item.is
      c.loop-item.invariant.number c.loop-item.invariant.put c.in_ok-put_out.ensures;
}

pub overflow_add-number : goal.overflow_add-number
overflow_add-number c =
    let at = c.loop-item.invariant.number in
    let all = c.requires in
    let lt = c.loop-item-test.true in omega arith
