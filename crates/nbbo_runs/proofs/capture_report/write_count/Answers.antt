use Rattle.text_out.specs.Devices.{Writing}
use Rattle.nbbo_runs.proofs.CaptureCounts.{counts_none, counts_some}
use Rattle.nbbo_runs.proofs.capture_report.write_count.Goals as goal

pub returns-then-count-eq0 : goal.returns-then-count-eq0
returns-then-count-eq0 g c =
    let w : Writing g.row.E.Denot = record {
      adds = g.E.TextOut.adds;
      failures =
          g.E.TextOut.failures;
    } in
    counts_none w c.args.label.now c.args.count c.args.errors.now c.if-count-eq0.true

pub returns : goal.returns
returns g c =
    let w : Writing g.row.E.Denot = record {
      adds = g.E.TextOut.adds;
      failures =
          g.E.TextOut.failures;
    } in
    counts_some w c.args.label.now c.args.count c.args.errors.now c.write_counted.new.errors
    c.if-count-eq0.false c.write_counted.ensures
