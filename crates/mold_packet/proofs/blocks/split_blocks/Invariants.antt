use Rattle.std.proofs.Common.{List, ℕ}
use Rattle.mold_packet.specs.Block.{HasBlocks}
use Rattle.mold_packet.proofs.blocks.split_blocks.Given as goal

abbrev pub invariant-loop : goal.invariant-loop
invariant-loop l = (messages : List (List ℕ)) × HasBlocks l.counter l.body messages l.rest
