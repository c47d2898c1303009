use Rattle.std.proofs.Common.{◌++◌, codes}
use Rattle.text_out.specs.Devices.{Writing}
use Rattle.text_out.specs.Members.{writing_of}
use Rattle.nbbo_runs.specs.CaptureTexts.{count_texts}
use Rattle.text_out.specs.laws.SaidTexts.{says_each}
use Rattle.nbbo_runs.proofs.capture_report.write_datagrams.Goals as goal

pub returns : goal.returns
returns g c =
    let w : Writing g.row.E.Denot = writing_of g.E.TextOut in
    let counts = c.args.counts.now in
    let second = count_texts (codes "nbbo: datagrams to lines: ") counts.to_lines in
    let third = count_texts (codes "nbbo: datagrams to other addresses passed over: ")
    counts.elsewhere in
    says_each w (count_texts (codes "nbbo: frames in all: ") c.args.all)
    (second ++ third) c.args.errors.now c.write_count.new.errors c.write_count-3.new.errors
    c.write_count.ensures
    (says_each w second third c.write_count.new.errors c.write_count-2.new.errors
    c.write_count-3.new.errors c.write_count-2.ensures c.write_count-3.ensures)
