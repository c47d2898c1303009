use Rattle.text_out.specs.Members.{writing_of}
use Rattle.std.proofs.Common.{◌≡◌, length}
use Rattle.run_watches.specs.RunLines.{watched_run}
use Rattle.run_watches.specs.RunNews.{SaysRunNews}
use Rattle.udp_listening.specs.ItchReports.{HasLooked, SaysLook}
use Rattle.udp_listening.proofs.run_monitor.RunMonitor.say_given_up.Given as goal

abbrev pub invariant-loop-place : goal.invariant-loop-place
invariant-loop-place g l =
    (watched_run l.self.watches ≡ watched_run l.fn.self.watches)
    × SaysRunNews (writing_of g.E.TextOut)
    (watched_run l.fn.self.watches) l.fn.self.errors l.self.errors
    × HasLooked l.place l.fn.self.itch l.self.itch × (length l.self.itch.reported ≡ 16)
    × SaysLook (writing_of g.E.TextOut) l.elapsed_ms l.place l.fn.self l.self
