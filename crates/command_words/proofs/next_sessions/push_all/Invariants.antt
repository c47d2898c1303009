use Rattle.std.proofs.Common.{◌≡◌, ◌++◌, take}
use Rattle.command_words.specs.NextSessions.{named_next}
use Rattle.command_words.proofs.next_sessions.push_all.Given as goal

abbrev pub invariant-loop-name : goal.invariant-loop-name
invariant-loop-name l =
    l.next.items ≡ l.fn.next.items ++ named_next l.venue (take l.name-index l.names)
