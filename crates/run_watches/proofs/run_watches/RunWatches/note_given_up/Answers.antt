use Rattle.std.specs.Prelude.{◌/◌}
use Rattle.text_out.specs.Devices.{Writing}
use Rattle.text_out.specs.Members.{writing_of}
use Rattle.run_watches.specs.RunLines.{watched_run}
use Rattle.run_watches.specs.RunNews.{IsNewsOf, IsNewsOfGaps}
use Rattle.run_watches.proofs.RunTelling.{news_of_noted}
use Rattle.run_watches.proofs.Telling.{gaps_within, news_within}
use Rattle.run_watches.proofs.run_watches.RunWatches.note_given_up.Goals as goal

pub returns-clause-news : goal.returns-clause-news
returns-clause-news g c =
    let w : Writing g.row.E.Denot = writing_of g.E.TextOut in
    let old = c.args.self.now in
    let run = watched_run old in
    news_within w run.names (IsNewsOfGaps run.gaps) (IsNewsOf run) c.args.errors.now
    c.note_given_up.new.errors (gaps_within run)
    (news_of_noted w run.names old.gaps c.args.venue (c.args.elapsed_ms / 1000) c.args.missing
    c.args.errors.now c.note_given_up.new.errors c.note_given_up.ensures.says)
