use Rattle.std.proofs.Common.{◌≡◌, take}
use Rattle.command_words.specs.ItchRequests.{itch_venues_from}
use Rattle.command_words.proofs.itch_words.venues_named.Given as goal

abbrev pub invariant-loop-place : goal.invariant-loop-place
invariant-loop-place l = l.venues.items ≡ itch_venues_from 0 l.names (take l.place l.sessions)
