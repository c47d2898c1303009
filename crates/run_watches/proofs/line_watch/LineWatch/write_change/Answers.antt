use Rattle.std.proofs.Common.{refl}
use Rattle.text_out.specs.Devices.{Writing}
use Rattle.run_watches.specs.RunLines.{watched}
use Rattle.run_watches.specs.RunNews.{IsNewsOfLine, IsTold, of_line}
use Rattle.run_watches.proofs.Telling.{of_some, one_news}
use Rattle.run_watches.proofs.line_watch.LineWatch.write_change.Goals as goal

pub returns : goal.returns
returns g c =
    let w : Writing g.row.E.Denot = record {
      adds = g.E.TextOut.adds;
      failures =
          g.E.TextOut.failures;
    } in
    let told = of_some (IsTold c.args.tells_more) c.args.change _ c.in-Some.is c.requires in
    one_news w c.args.names.now (IsNewsOfLine c.args.tells_more (watched c.args.self.now))
    (of_line _)
    c.args.errors.now c.write_news.new.errors (refl, told) c.write_news.ensures
