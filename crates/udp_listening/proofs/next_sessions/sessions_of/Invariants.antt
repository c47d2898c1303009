use Rattle.std.proofs.Common.{◌≡◌, ◌∷◌, ◌++◌, Some, drop}
use Rattle.std.specs.List.{last_or}
use Rattle.udp_listening.proofs.next_sessions.sessions_of.Given as goal

abbrev pub invariant-loop-name : goal.invariant-loop-name
invariant-loop-name l =
    (l.sessions.earlier.items ++ l.sessions.last ∷ drop l.name-index l.following
    ≡ l.fn.first ∷ l.following)
    × (last_or (Some l.sessions.last) (drop l.name-index l.following)
    ≡ last_or (Some l.fn.first) l.following)
