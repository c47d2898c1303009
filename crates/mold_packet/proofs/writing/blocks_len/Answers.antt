use Rattle.std.proofs.Common.{arith}
use Rattle.mold_packet.specs.laws.Growing.{lent, nothing, length-blocks_more, message_at}
use Rattle.mold_packet.proofs.writing.blocks_len.Goals as goal

pub loop-message-preserved : goal.loop-message-preserved
loop-message-preserved c =
    let i = c.loop-message.message-index in (
      omega (arith, length-blocks_more lent c.args.messages.now i nothing c.loop-message-test.true),
      let short = message_at c.args.messages.now i c.requires.each c.loop-message-test.true
          in omega (arith, short),
    )
