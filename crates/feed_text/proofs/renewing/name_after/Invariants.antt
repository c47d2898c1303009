use Rattle.std.proofs.Common.{◌≡◌, drop}
use Rattle.std.specs.Prelude.{slice_get}
use Rattle.run_settings.specs.NextSessions.{names_after}
use Rattle.feed_text.proofs.renewing.name_after.Given as goal

abbrev pub invariant-loop-session : goal.invariant-loop-session
invariant-loop-session l = slice_get (names_after l.venue (drop l.session-index l.next)) l.left
    ≡ slice_get (names_after l.venue l.next) l.place
