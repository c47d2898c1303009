use Rattle.std.proofs.Common.{flat_map, length}
use Rattle.text_out.specs.Devices.{Writing}
use Rattle.text_out.specs.Members.{writing_of}
use Rattle.text_out.specs.laws.SaidTexts.{says_each}
use Rattle.nbbo_runs.specs.Sessions.{full_texts, session_texts}
use Rattle.nbbo_runs.proofs.session_report.write_sessions.Goals as goal

pub returns : goal.returns
returns g c =
    let w : Writing g.row.E.Denot = writing_of g.E.TextOut in
    let rows = c.args.rows.now in
    let texts = session_texts c.args.named.now.next.now c.args.named.now.ordinals.now in
    says_each w (flat_map texts rows) (full_texts (length rows)) c.args.errors.now
    c.write_rows.new.errors c.write_full.new.errors c.write_rows.ensures
    c.write_full.ensures
