use Rattle.std.proofs.Common.{◌≡◌, map, take}
use Rattle.std.specs.Prelude.{flat_map}
use Rattle.udp_listening.specs.ItchEnds.{shared_venue}
use Rattle.udp_listening.proofs.sources.itch_shares.Given as goal

abbrev pub invariant-loop-venue : goal.invariant-loop-venue
invariant-loop-venue l = map (λ share. share.venue) l.shares.items
    ≡ flat_map (λ s. shared_venue s.itch) (take l.venue-index l.venues)
