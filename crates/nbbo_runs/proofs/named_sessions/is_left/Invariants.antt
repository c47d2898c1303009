use Rattle.std.proofs.Common.{◌≡◌, drop}
use Rattle.std.specs.List.{list_any}
use Rattle.std.specs.Str.{bytes_eq}
use Rattle.run_settings.specs.NextSessions.{names_after}
use Rattle.nbbo_runs.proofs.named_sessions.is_left.Given as goal

abbrev pub invariant-loop-one : goal.invariant-loop-one
invariant-loop-one l =
    list_any (bytes_eq l.session.name)
    (drop l.left (names_after l.session.venue (drop l.one-index l.next)))
    ≡ list_any (bytes_eq l.session.name) (drop l.fn.begun (names_after l.session.venue l.next))
