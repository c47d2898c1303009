use Rattle.std.proofs.Common.{◌≡◌, ◌*◌, ◌≤◌, length, take}
use Rattle.mold_packet.specs.laws.Growing.{blocks_to}
use Rattle.mold_packet.proofs.writing.blocks_len.Given as goal

abbrev pub invariant-loop-message : goal.invariant-loop-message
invariant-loop-message l = (l.len ≡ length (blocks_to (take l.message-index l.messages)))
    × (l.len ≤ 65537 * l.message-index)
