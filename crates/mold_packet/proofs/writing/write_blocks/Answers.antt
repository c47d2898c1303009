use Rattle.std.proofs.Common.{◌++◌, ◌+◌, ◌∙◌, ap, sym, List, ℕ, length, get_or, take, drop, arith}
use Rattle.std.proofs.lemmas.List.{length-take, length-drop}
use Rattle.mold_packet.specs.Block.{block}
use Rattle.mold_packet.specs.laws.Growing.{lent, nothing, blocks_to, blocks_more, blocks_within, length-blocks_more, message_at}
use Rattle.mold_packet.specs.laws.Overwriting.{tail_written}
use Rattle.mold_packet.proofs.writing.write_blocks.Goals as goal

pub write_block-requires-clause-is_message : goal.write_block-requires-clause-is_message
write_block-requires-clause-is_message c = message_at _ _ c.requires.each c.loop-message-test.true

pub write_block-requires-clause-room : goal.write_block-requires-clause-room
write_block-requires-clause-room c =
    let within = blocks_within c.args.messages.now c.loop-message.message-index
    c.loop-message-test.true in
    omega (
      arith,
      within,
      length-take (length c.loop-message.out)
          (drop c.loop-message.end c.loop-message.out),
      length-drop
          c.loop-message.end c.loop-message.out,
    )

pub loop-message-preserved : goal.loop-message-preserved
loop-message-preserved c =
    let i = c.loop-message.message-index in
    let front : List ℕ = blocks_to (take i c.args.messages.now) in
    let message : List ℕ = (get_or c.args.messages.now i nothing).now in (
      omega (arith, length-blocks_more lent c.args.messages.now i nothing c.loop-message-test.true),
      tail_written c.loop-message.out front c.args.out.now _ (block message) c.loop-message.end
          (2 + length message) c.loop-message.invariant.1 (sym c.loop-message.invariant.0)
          c.write_block.ensures
          ∙ ap (λ (x : List ℕ). x ++ drop (c.loop-message.end + (2 + length message))
          c.args.out.now)
          (sym (blocks_more lent c.args.messages.now i nothing c.loop-message-test.true)),
    )
