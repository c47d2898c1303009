use Rattle.text_out.specs.Devices.{Writing}
use Rattle.run_watches.specs.RunLines.{watched}
use Rattle.run_watches.specs.RunNews.{IsNewsOfLine}
use Rattle.run_watches.specs.RunNewsLaws.{more_news}
use Rattle.run_watches.proofs.line_watch.LineWatch.write_end.Goals as goal

pub returns : goal.returns
returns g c =
    let w : Writing g.row.E.Denot = record {
      adds = g.E.TextOut.adds;
      failures =
          g.E.TextOut.failures;
    } in
    more_news w c.args.names.now (IsNewsOfLine c.args.tells_more (watched c.args.self.now))
    c.args.errors.now
    c.write_change.new.errors c.write_change-2.new.errors c.write_change.ensures
    c.write_change-2.ensures
