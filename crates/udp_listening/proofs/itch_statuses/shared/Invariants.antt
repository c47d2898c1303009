use Rattle.std.proofs.Common.{◌≡◌, map, take}
use Rattle.udp_listening.proofs.itch_statuses.shared.Given as goal

abbrev pub invariant-loop-share : goal.invariant-loop-share
invariant-loop-share l =
    map (λ share. share.venue) l.own.items
    ≡ map (λ share. share.venue) (take l.share-index l.shares)
