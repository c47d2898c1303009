use Rattle.text_out.specs.Devices.{Writing}
use Rattle.run_watches.specs.RunLines.{watched}
use Rattle.run_watches.proofs.Telling.{one_total}
use Rattle.run_watches.proofs.line_watch.LineWatch.write_total.Goals as goal

pub returns : goal.returns
returns g c =
    let w : Writing g.row.E.Denot = record {
      adds = g.E.TextOut.adds;
      failures =
          g.E.TextOut.failures;
    } in
    one_total w c.args.names.now (watched c.args.self.now) c.args.counted c.args.count
    c.args.errors.now
    c.write_total.new.errors
    c.if-count-eq0.false c.write_total.ensures
