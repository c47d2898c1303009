use Rattle.std.proofs.Common.{codes}
use Rattle.text_out.specs.Devices.{Writing}
use Rattle.text_out.specs.Members.{writing_of}
use Rattle.nbbo_runs.proofs.CaptureCounts.{in_order, out_of_order}
use Rattle.text_out.specs.laws.SaidTexts.{says_one}
use Rattle.nbbo_runs.proofs.capture_report.write_order.Goals as goal

pub returns-then-disordered-eq0 : goal.returns-then-disordered-eq0
returns-then-disordered-eq0 g c =
    let w : Writing g.row.E.Denot = writing_of g.E.TextOut in
    in_order w c.args.disordered c.args.errors.now c.if-disordered-eq0.true

pub returns : goal.returns
returns g c =
    let w : Writing g.row.E.Denot = writing_of g.E.TextOut in
    out_of_order w c.args.disordered c.args.errors.now c.write_stderr.new.errors
    c.if-disordered-eq0.false
    (says_one w (codes
    "nbbo: rows and figures by time need frames in order of time, which mergecap or reordercap makes\n")
    c.args.errors.now c.write_stderr.new.errors c.write_stderr.ensures)
