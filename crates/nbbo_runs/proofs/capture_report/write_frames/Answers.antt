use Rattle.text_out.specs.Devices.{Writing}
use Rattle.text_out.specs.Members.{writing_of}
use Rattle.nbbo_runs.proofs.CaptureCounts.{frames_none, frames_some}
use Rattle.nbbo_runs.proofs.capture_report.write_frames.Goals as goal

pub returns-then-all-counts : goal.returns-then-all-counts
returns-then-all-counts g c =
    let w : Writing g.row.E.Denot = writing_of g.E.TextOut in
    frames_none w c.args.counts.now c.total-all.result c.args.errors.now c.total-all.ensures
    c.if-all-counts.true

pub returns : goal.returns
returns g c =
    let w : Writing g.row.E.Denot = writing_of g.E.TextOut in
    frames_some w c.args.counts.now c.total-all.result c.args.errors.now
    c.write_datagrams.new.errors c.total-all.ensures c.if-all-counts.false
    c.write_datagrams.ensures
