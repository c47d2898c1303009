use Rattle.std.proofs.Common.{◌≡◌, length, take}
use Rattle.udp_listening.specs.ItchShown.{AreSeen}
use Rattle.udp_listening.proofs.itch_statuses.seen_by.Given as goal

abbrev pub invariant-loop-source : goal.invariant-loop-source
invariant-loop-source g l =
    AreSeen g.S.StatusSource.shows (take l.source-index l.sources) l.seen × (length l.seen ≡ 16)
