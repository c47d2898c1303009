use Rattle.text_out.specs.Members.{writing_of}
use Rattle.std.proofs.Common.{◌≡◌}
use Rattle.run_watches.specs.RunLines.{watched_run}
use Rattle.run_watches.specs.RunNews.{SaysRunNews}
use Rattle.udp_listening.proofs.run_monitor.RunMonitor.watch_run.Given as goal

abbrev pub invariant-loop : goal.invariant-loop
invariant-loop g l =
    (goal.iterator-loop g).can_next l.iterator' × (goal.iterator-loop g).is_finite l.iterator'
    × (watched_run l.monitor.watches ≡ watched_run l.initial.monitor.watches)
    × SaysRunNews (writing_of g.E.TextOut)
    (watched_run l.initial.monitor.watches) l.initial.monitor.errors l.monitor.errors
