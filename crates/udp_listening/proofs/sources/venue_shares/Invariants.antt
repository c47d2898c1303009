use Rattle.std.proofs.Common.{◌≡◌, length}
use Rattle.std.specs.Prelude.{flat_map}
use Rattle.udp_listening.specs.ItchEnds.{named_below, shared_venue}
use Rattle.udp_listening.proofs.sources.venue_shares.Given as goal

abbrev pub invariant-loop-place : goal.invariant-loop-place
invariant-loop-place l =
    (length l.shares.items ≡ l.place)
    × (flat_map (λ s. shared_venue s.itch) l.shares.items
    ≡ named_below l.settings.itch.venues.items l.place)
