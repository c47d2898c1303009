use Rattle.std.proofs.Common.{◌≡◌, ◌++◌, drop}
use Rattle.run_settings.specs.NextSessions.{names_after}
use Rattle.udp_listening.proofs.next_sessions.names_after.Given as goal

abbrev pub invariant-loop-session : goal.invariant-loop-session
invariant-loop-session l = l.names.items ++ names_after l.venue (drop l.session-index l.next)
    ≡ names_after l.venue l.next
