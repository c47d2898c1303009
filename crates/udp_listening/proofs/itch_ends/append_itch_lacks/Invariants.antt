use Rattle.std.proofs.Common.{◌≡◌, ◌++◌, take}
use Rattle.udp_listening.specs.ItchEnds.{itch_lacks}
use Rattle.udp_listening.proofs.itch_ends.append_itch_lacks.Given as goal

abbrev pub invariant-loop-end : goal.invariant-loop-end
invariant-loop-end l = l.lacking.items
    ≡ l.fn.lacking.items ++ itch_lacks (take l.end-index l.ends)
