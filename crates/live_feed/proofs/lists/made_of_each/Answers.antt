use Rattle.std.proofs.Common.{◌∷◌, [], arith, length-append}
use Rattle.live_feed.proofs.RunMoves.{pairwise_more}
use Rattle.live_feed.proofs.lists.made_of_each.Goals as goal

pub loop-item-preserved : goal.loop-item-preserved
loop-item-preserved g c =
    let i = c.loop-item.invariant in
    let pushed = c.push_reserved.ensures in
    let more = length-append c.loop-item.yielded (c.in-Some.item ∷ []) in (
      tt,
      tt,
      rw pushed.items
          (pairwise_more _ c.loop-item.yielded c.loop-item.made.items
          c.in-Some.item c.make-one.result i.2
          (c.len.result, c.make-one.ensures)),
      omega (arith, more, pushed.len, i.3),
      omega (arith, pushed.capacity, i.4),
    )
