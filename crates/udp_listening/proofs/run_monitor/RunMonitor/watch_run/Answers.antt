use Rattle.std.proofs.Common.{◌≡◌, ◌∙◌, refl, subst, sym}
use Rattle.text_out.specs.Devices.{Writing}
use Rattle.text_out.specs.Members.{writing_of}
use Rattle.run_watches.specs.RunLines.{WatchedRun, watched_run}
use Rattle.run_watches.specs.RunNews.{SaysOfRun, SaysRunEnd, SaysRunNews}
use Rattle.udp_listening.specs.declared.run_monitor.RunMonitor.{RunMonitor}
use Rattle.run_watches.specs.RunNewsLaws.{more_run_news, no_run_news}
use Rattle.udp_listening.proofs.run_monitor.RunMonitor.watch_run.Goals.{in-None, in-Some+then-turn}
use Rattle.udp_listening.proofs.run_monitor.RunMonitor.watch_run.Goals as goal

-- the monitor watches this run, of which it has said news since this state of standard error
abbrev Follows : {C E : Type 0} → Writing E → WatchedRun → E → RunMonitor C E → Type 0
Follows w run first monitor =
    (watched_run monitor.watches ≡ run) × SaysRunNews w run first monitor.errors

-- the news of one more turn
turned : {E : Type 0} (w : Writing E) (run now : WatchedRun) (s t u : E)
    → now ≡ run → SaysRunNews w run s t → SaysRunNews w now t u → SaysRunNews w run s u
turned w run now s t u same before news =
    more_run_news w run s t u before (subst (λ r. SaysRunNews w r t u) same news)

-- and then the end
ended : {C E : Type 0} (w : Writing E) (run : WatchedRun) (first : E) (monitor : RunMonitor C E)
    (last : E) → Follows w run first monitor
    → SaysRunEnd w (watched_run monitor.watches) monitor.errors last
    → SaysOfRun w run first last
ended w run first monitor last follows end = record {
  last = monitor.errors;
  news = follows.1;
  ended = subst (λ r. SaysRunEnd w r monitor.errors last) follows.0 end;
}

pub loop-init : goal.loop-init
loop-init g c =
    let w : Writing g.row.E.Denot = writing_of g.E.TextOut in
    let s = c.args.self in (
      tt,
      tt,
      refl,
      no_run_news w (watched_run s.watches) s.errors,
    )

pub loop-preserved : goal.loop-preserved
loop-preserved g c =
    let w : Writing g.row.E.Denot = writing_of g.E.TextOut in (
      tt,
      tt,
      c.turn.ensures.run ∙ c.loop.invariant.2,
      turned w (watched_run c.args.self.watches) (watched_run c.loop.monitor.watches)
          c.args.self.errors c.loop.monitor.errors c.turn.new.self.errors
          c.loop.invariant.2 c.loop.invariant.3 c.turn.ensures.news,
    )

pub returns : goal.returns
returns g c =
    let w : Writing g.row.E.Denot = writing_of g.E.TextOut in
    let run = watched_run c.args.self.watches in
    let first = c.args.self.errors in
    let before = c.loop.monitor in
    let follows : Follows w run first c.match-next.monitor =
    elim c.match-next.branch [
      | in-None w' ↦
          subst (λ m. Follows w run first m) (sym w'.monitor-is) (
            c.loop.invariant.2,
            c.loop.invariant.3,
          )
      | in-Some+then-turn w' ↦
          subst (λ m. Follows w run first m) (sym w'.monitor-is) (
            w'.turn.ensures.run ∙ c.loop.invariant.2,
            turned w run (watched_run before.watches) first before.errors
                w'.turn.new.self.errors c.loop.invariant.2 c.loop.invariant.3
                w'.turn.ensures.news,
          )
    ] in
    ended w run first c.match-next.monitor c.close.new.self.errors follows
    c.close.ensures
