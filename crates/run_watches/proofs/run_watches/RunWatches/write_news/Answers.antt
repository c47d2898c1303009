use Rattle.text_out.specs.Devices.{Writing}
use Rattle.text_out.specs.Members.{writing_of}
use Rattle.run_watches.specs.RunLines.{watched_run}
use Rattle.run_watches.specs.RunNews.{IsNewsOf, IsNewsOfLines, IsNewsOfOutput}
use Rattle.run_watches.specs.RunNewsLaws.{more_news}
use Rattle.run_watches.proofs.Telling.{lines_within, news_within, output_within}
use Rattle.run_watches.proofs.run_watches.RunWatches.write_news.Goals as goal

pub returns-clause-news : goal.returns-clause-news
returns-clause-news g c =
    let w : Writing g.row.E.Denot = writing_of g.E.TextOut in
    let run = watched_run c.args.self.now in
    let first = c.args.errors.now in
    let mid = c.write_news.new.errors in
    let last = c.write_news-2.new.errors in
    more_news w run.names (IsNewsOf run) first mid last
    (news_within w run.names (IsNewsOfOutput run.follows) (IsNewsOf run) first mid
    (output_within run) (c.write_news.ensures.news run.names))
    (news_within w run.names (IsNewsOfLines run.lines) (IsNewsOf run) mid last (lines_within run)
    c.write_news-2.ensures.news)
