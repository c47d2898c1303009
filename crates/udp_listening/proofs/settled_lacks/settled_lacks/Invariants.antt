use Rattle.std.proofs.Common.{◌≡◌, take}
use Rattle.udp_listening.specs.SettledLacks.{lacks_from}
use Rattle.udp_listening.proofs.settled_lacks.settled_lacks.Given as goal

abbrev pub invariant-loop-place : goal.invariant-loop-place
invariant-loop-place l = l.lacking.items ≡ lacks_from 0 (take l.place l.settlement.venues)
