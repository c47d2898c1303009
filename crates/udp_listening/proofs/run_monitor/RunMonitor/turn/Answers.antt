use Rattle.std.proofs.Common.{◌∙◌, ap, subst, sym}
use Rattle.text_out.specs.Devices.{Writing}
use Rattle.text_out.specs.Members.{writing_of}
use Rattle.run_watches.specs.RunLines.{watched_run}
use Rattle.run_watches.specs.RunNews.{SaysRunNews}
use Rattle.run_watches.specs.RunNewsLaws.{more_run_news}
use Rattle.udp_listening.proofs.run_monitor.RunMonitor.turn.Goals as goal

pub returns-clause-news : goal.returns-clause-news
returns-clause-news g c =
    let w : Writing g.row.E.Denot = writing_of g.E.TextOut in
    let said = c.say_news.new.self in
    let stopped = c.stop.new.self in
    let last = c.watch.new.self.errors in
    let run = watched_run c.args.self.now.watches in
    let same = ap (λ watches. watched_run watches) c.stop.ensures.watches
    ∙ c.say_news.ensures.run in
    subst (λ e. SaysRunNews w run c.args.self.now.errors e) (sym c.serve.ensures.errors)
    (more_run_news w run c.args.self.now.errors said.errors last
    c.say_news.ensures.news
    (subst (λ r. SaysRunNews w r said.errors last) same
    (subst (λ e. SaysRunNews w (watched_run stopped.watches) e last)
    c.stop.ensures.errors c.watch.ensures.news)))
