use Rattle.report_rows.specs.RowLaws.{fails_shown}
use Rattle.report_rows.proofs.row_sink.RowSinkEventSink.show.Goals as goal

pub returns-clause-failed : goal.returns-clause-failed
returns-clause-failed g c =
    let old = c.args.self.now in
    fails_shown g.M.RowMaker.makes g.M.RowMaker.tells g.W.TextOut.adds g.W.TextOut.failures
    c.write.result old (record { page = c.write.new.self; maker = old.maker })
    (g.met.M.RowMaker.tells_none old.maker) c.write.ensures.part
