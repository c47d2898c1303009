use Rattle.std.proofs.Common.{◌≡◌, ◌++◌, take}
use Rattle.nbbo_runs.specs.Sessions.{named_sightings}
use Rattle.nbbo_runs.proofs.watched_format.name_sessions.Given as goal

abbrev pub invariant-loop-session : goal.invariant-loop-session
invariant-loop-session l =
    l.seen ≡ l.fn.seen ++ named_sightings (take l.session-index l.next)
