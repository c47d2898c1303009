use Rattle.std.proofs.Common.{◌∙◌, subst}
use Rattle.text_out.specs.Devices.{Writing}
use Rattle.text_out.specs.Members.{writing_of}
use Rattle.run_watches.specs.RunLines.{watched_run}
use Rattle.run_watches.specs.RunNews.{SaysRunNews}
use Rattle.run_watches.specs.RunNewsLaws.{more_run_news}
use Rattle.udp_listening.proofs.run_monitor.RunMonitor.watch.Goals as goal

pub returns-clause-news : goal.returns-clause-news
returns-clause-news g c =
    let w : Writing g.row.E.Denot = writing_of g.E.TextOut in
    let run = watched_run c.args.self.now.watches in
    let given = c.say_given_up.new.self.errors in
    let counted = c.write_counts.new.errors in
    let last = c.look_at_gaps.new.errors in
    let same = c.say_given_up.ensures.run in
    more_run_news w run c.args.self.now.errors given last c.say_given_up.ensures.news
    (more_run_news w run given counted last
    (subst (λ r. SaysRunNews w r given counted) same c.write_counts.ensures.news)
    (subst (λ r. SaysRunNews w r counted last) (c.write_counts.ensures.run ∙ same)
    c.look_at_gaps.ensures.news))
