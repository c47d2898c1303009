use Rattle.text_out.specs.Devices.{Writing}
use Rattle.text_out.specs.Members.{writing_of}
use Rattle.run_watches.specs.RunLines.{watched}
use Rattle.run_watches.proofs.Telling.{both_notes}
use Rattle.run_watches.proofs.line_watch.LineWatch.write_all_notes.Goals as goal

pub returns : goal.returns
returns g c =
    let w : Writing g.row.E.Denot = writing_of g.E.TextOut in
    both_notes w c.args.names.now (watched c.args.self.now) c.stranger.result c.is_unheard.result
    c.args.errors.now c.write_stranger.new.errors c.write_unheard.new.errors
    c.write_stranger.ensures c.write_unheard.ensures
