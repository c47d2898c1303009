use Rattle.std.proofs.Common.{◌≡◌, ◌++◌, length, take, drop}
use Rattle.mold_packet.specs.laws.Growing.{blocks_to}
use Rattle.mold_packet.proofs.writing.write_blocks.Given as goal

abbrev pub invariant-loop-message : goal.invariant-loop-message
invariant-loop-message l = (l.end ≡ length (blocks_to (take l.message-index l.messages)))
    × (l.out ≡ blocks_to (take l.message-index l.messages) ++ drop l.end l.fn.out)
