use Rattle.std.proofs.Common.{codes}
use Rattle.text_out.specs.Devices.{Writing}
use Rattle.text_out.specs.Members.{writing_of}
use Rattle.nbbo_runs.specs.CaptureTexts.{count_texts}
use Rattle.text_out.specs.laws.SaidTexts.{says_each}
use Rattle.nbbo_runs.proofs.capture_report.write_protocols.Goals as goal

pub returns : goal.returns
returns g c =
    let w : Writing g.row.E.Denot = writing_of g.E.TextOut in
    let counts = c.args.counts.now in
    says_each w (count_texts (codes "nbbo: frames without IP passed over: ") counts.no_ip)
    (count_texts (codes "nbbo: IP packets without UDP passed over: ") counts.no_udp)
    c.args.errors.now c.write_count.new.errors c.write_count-2.new.errors c.write_count.ensures
    c.write_count-2.ensures
