use Rattle.text_out.specs.Devices.{Writing}
use Rattle.run_watches.specs.RunLines.{watched_run}
use Rattle.run_watches.specs.RunNews.{IsNewsOf, IsNewsOfGaps}
use Rattle.run_watches.proofs.Telling.{gaps_within, news_within}
use Rattle.run_watches.proofs.run_watches.RunWatches.look_at_gaps.Goals as goal

pub returns-clause-news : goal.returns-clause-news
returns-clause-news g c =
    let w : Writing g.row.E.Denot = record {
      adds = g.E.TextOut.adds;
      failures =
          g.E.TextOut.failures;
    } in
    let run = watched_run c.args.self.now in
    news_within w run.names (IsNewsOfGaps run.gaps) (IsNewsOf run) c.args.errors.now
    c.look.new.errors
    (gaps_within run) c.look.ensures.says
