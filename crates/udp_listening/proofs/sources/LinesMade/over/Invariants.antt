use Rattle.std.proofs.Common.{◌≡◌, length, map}
use Rattle.std.specs.Prelude.{All, vec_len}
use Rattle.run_watches.specs.RunLines.{watched}
use Rattle.udp_listening.specs.ItchEnds.{itch_venues}
use Rattle.udp_listening.specs.Lines.{run_lines}
use Rattle.udp_listening.specs.Reports.{IsLineOf, task_line}
use Rattle.udp_listening.proofs.sources.LinesMade.over.Given as goal

abbrev pub invariant-loop-bound : goal.invariant-loop-bound
invariant-loop-bound g l =
    (goal.iterator-loop-bound g).can_next l.bound-iterator
    × (goal.iterator-loop-bound g).is_finite l.bound-iterator
    × (map task_line l.made.tasks.items ≡ run_lines l.settings l.yielded)
    × (map watched l.made.watches.items ≡ run_lines l.settings l.yielded)
    × (length l.made.venues.items ≡ vec_len l.settings.feed.sessions)
    × All (IsLineOf l.settings) l.made.tasks.items
    × (map (λ share. share.venue) l.made.itch.items ≡ itch_venues l.settings)
