use Rattle.std.proofs.Common.{◌++◌, codes}
use Rattle.text_out.specs.Devices.{Writing}
use Rattle.text_out.specs.Members.{writing_of}
use Rattle.nbbo_runs.specs.CaptureTexts.{count_texts}
use Rattle.text_out.specs.laws.SaidTexts.{says_each}
use Rattle.nbbo_runs.proofs.capture_report.write_lost.Goals as goal

pub returns : goal.returns
returns g c =
    let w : Writing g.row.E.Denot = writing_of g.E.TextOut in
    let counts = c.args.counts.now in
    let second = count_texts (codes "nbbo: cut frames passed over: ") counts.cut in
    let third = count_texts (codes "nbbo: malformed packets passed over: ") counts.malformed in
    says_each w (count_texts (codes "nbbo: fragments passed over: ") counts.fragments)
    (second ++ third) c.args.errors.now c.write_count.new.errors c.write_count-3.new.errors
    c.write_count.ensures
    (says_each w second third c.write_count.new.errors c.write_count-2.new.errors
    c.write_count-3.new.errors c.write_count-2.ensures c.write_count-3.ensures)
