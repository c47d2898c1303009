use Rattle.std.proofs.Common.{map, take}
use Rattle.udp_listening.specs.ItchEnds.{AreItchEnds}
use Rattle.udp_listening.proofs.itch_ends.itch_ends.Given as goal

abbrev pub invariant-loop-share : goal.invariant-loop-share
invariant-loop-share l =
    AreItchEnds (map (λ s. s.venue) (take l.share-index l.shares)) l.ends.items
