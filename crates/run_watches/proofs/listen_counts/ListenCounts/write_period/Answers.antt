use Rattle.text_out.specs.Devices.{Writing}
use Rattle.text_out.specs.Members.{writing_of}
use Rattle.run_watches.proofs.Counts.{more_counts}
use Rattle.run_watches.proofs.listen_counts.ListenCounts.write_period.Goals as goal

pub loop-place-preserved : goal.loop-place-preserved
loop-place-preserved g c =
    let w : Writing g.row.E.Denot = writing_of g.E.TextOut in
    more_counts w c.args.errors.now c.loop-place.errors c.write_any.new.errors
    c.loop-place.invariant c.write_any.ensures
