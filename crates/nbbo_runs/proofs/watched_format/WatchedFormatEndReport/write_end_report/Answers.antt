use Rattle.text_out.specs.Devices.{Writing}
use Rattle.text_out.specs.Members.{writing_of}
use Rattle.text_out.specs.laws.SaidTexts.{says_each}
use Rattle.nbbo_runs.specs.Watches.{watch_texts}
use Rattle.nbbo_runs.proofs.watched_format.WatchedFormatEndReport.write_end_report.Goals as goal

pub returns : goal.returns
returns g c =
    let w : Writing g.row.E.Denot = writing_of g.E.TextOut in
    let s = c.args.self.now in
    let outcome = c.args.outcome.now in
    let ordinals = c.args.ordinals.now in
    says_each w (watch_texts outcome s ordinals)
    (g.F.EndReport.end_texts s.format ordinals outcome) c.args.errors.now c.write_watch.new.errors
    c.write_end_report.new.errors c.write_watch.ensures c.write_end_report.ensures
