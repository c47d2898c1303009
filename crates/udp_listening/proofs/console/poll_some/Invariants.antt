use Rattle.std.proofs.Common.{◌≡◌}
use Rattle.feed_types.specs.Prefix.{IsPrefix}
use Rattle.udp_listening.proofs.console.poll_some.Given as goal

abbrev pub invariant-loop : goal.invariant-loop
invariant-loop g l = IsPrefix l.fn.log.lines l.log.lines × (l.log.forgotten ≡ l.fn.log.forgotten)
