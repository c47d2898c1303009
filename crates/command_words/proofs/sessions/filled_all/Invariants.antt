use Rattle.std.proofs.Common.{◌≡◌, map, take}
use Rattle.command_words.specs.Sessions.{filled_name}
use Rattle.command_words.proofs.sessions.filled_all.Given as goal

abbrev pub invariant-loop-name : goal.invariant-loop-name
invariant-loop-name l = l.sessions.items ≡ map (λ name. filled_name name.now)
    (take l.name-index l.names)
