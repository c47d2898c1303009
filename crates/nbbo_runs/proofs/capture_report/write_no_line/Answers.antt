use Rattle.std.proofs.Common.{codes}
use Rattle.text_out.specs.Devices.{Writing}
use Rattle.nbbo_runs.proofs.CaptureCounts.{no_line_none, no_line_some}
use Rattle.text_out.specs.laws.SaidTexts.{says_one}
use Rattle.nbbo_runs.proofs.capture_report.write_no_line.Goals as goal

pub returns-then-to_lines-ne0 : goal.returns-then-to_lines-ne0
returns-then-to_lines-ne0 g c =
    let w : Writing g.row.E.Denot = record {
      adds = g.E.TextOut.adds;
      failures =
          g.E.TextOut.failures;
    } in
    no_line_some w c.args.to_lines c.args.errors.now c.if-to_lines-ne0.true

pub returns : goal.returns
returns g c =
    let w : Writing g.row.E.Denot = record {
      adds = g.E.TextOut.adds;
      failures =
          g.E.TextOut.failures;
    } in
    no_line_none w c.args.to_lines c.args.errors.now c.write_stderr.new.errors
    c.if-to_lines-ne0.false
    (says_one w (codes "nbbo: no datagram goes to a line\n") c.args.errors.now
    c.write_stderr.new.errors c.write_stderr.ensures)
