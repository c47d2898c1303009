use Rattle.std.proofs.Common.{◌++◌, ◌∷◌, [], ◌≡◌, arith}
use Rattle.mold_packet.specs.Block.{HasBlocks}
use Rattle.mold_packet.specs.laws.Cutting.{one_more, cut_off, rest_off, are_blocks}
use Rattle.mold_packet.proofs.blocks.split_blocks.Goals as goal
use Rattle.mold_packet.proofs.blocks.split_blocks.Goals.{After-split_at}

pub loop-preserved : goal.loop-preserved
loop-preserved c = (
  c.loop.invariant.0 ++ c.in_ok-_message._message.now
      ∷ [],
  one_more _ _ c.loop.invariant.1 c.in_ok-_message.ensures.found
      c.in_ok-_message.ensures.message,
)

whole : (c : After-split_at)
    → HasBlocks c.args.count c.args.body.now c.loop.invariant.0 c.loop.rest.now
whole c =
    let e : c.loop.counter ≡ c.args.count = omega arith in
    rw (← e) c.loop.invariant.1

pub returns-clause-found : goal.returns-clause-found
returns-clause-found c = rw (
  c.split_at.ensures.front,
  c.split_at.ensures.back,
  cut_off (whole c),
  rest_off (whole c),
) (whole c)

pub returns-clause-blocks : goal.returns-clause-blocks
returns-clause-blocks c = rw c.split_at.ensures.front (are_blocks (whole c))
