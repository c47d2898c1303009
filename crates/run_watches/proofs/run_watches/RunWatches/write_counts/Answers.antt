use Rattle.std.proofs.Common.{ap}
use Rattle.std.specs.Prelude.{is_some}
use Rattle.text_out.specs.Devices.{Writing}
use Rattle.text_out.specs.Members.{writing_of}
use Rattle.run_watches.specs.RunLines.{watched_run}
use Rattle.run_watches.proofs.RunTelling.{run_news_of_counts}
use Rattle.run_watches.proofs.run_watches.RunWatches.write_counts.Goals as goal

pub returns-then-due_ms-elapsed_ms-clause-news : goal.returns-then-due_ms-elapsed_ms-clause-news
returns-then-due_ms-elapsed_ms-clause-news g c =
    let w : Writing g.row.E.Denot = writing_of g.E.TextOut in
    run_news_of_counts w (watched_run c.args.self.now) c.args.errors.now c.write_period.new.errors
    (ap (λ counts. is_some counts) c.in-Some.is) c.write_period.ensures
