use Rattle.text_out.specs.Devices.{Writing}
use Rattle.text_out.specs.Members.{writing_of}
use Rattle.text_out.specs.laws.SaidTexts.{says_each}
use Rattle.nbbo_runs.specs.VenueLooks.{look_texts}
use Rattle.nbbo_runs.specs.Watches.{silent_lines_texts}
use Rattle.nbbo_runs.proofs.watched_format.write_venue.Goals as goal

pub returns : goal.returns
returns g c =
    let w : Writing g.row.E.Denot = writing_of g.E.TextOut in
    says_each w (silent_lines_texts c.args.input.now c.args.venue c.args.w.now)
    (look_texts c.args.venue c.args.look) c.args.errors.now c.write_silent_lines.new.errors
    c.write_look.new.errors c.write_silent_lines.ensures c.write_look.ensures
