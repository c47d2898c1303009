use Rattle.text_out.specs.Devices.{Writing}
use Rattle.text_out.specs.Members.{writing_of}
use Rattle.run_watches.proofs.Counts.{one_count}
use Rattle.run_watches.proofs.listen_counts.ListenCounts.write_venue.Goals as goal

pub returns-in-Ok : goal.returns-in-Ok
returns-in-Ok g c =
    let w : Writing g.row.E.Denot = writing_of g.E.TextOut in
    one_count w _ c.args.errors.now c.write_stderr.new.errors c.write_stderr.ensures
