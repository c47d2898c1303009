use Rattle.std.proofs.Common.{List, length, subst}
use Rattle.text_out.specs.Devices.{Writing}
use Rattle.text_out.specs.Members.{writing_of}
use Rattle.text_out.specs.StandardError.{SaysEach}
use Rattle.text_out.specs.laws.SaidTexts.{says_each}
use Rattle.nbbo_runs.specs.declared.session_row.SessionRow.{SessionRow}
use Rattle.nbbo_runs.specs.Sessions.{session_rows, sessions_texts}
use Rattle.nbbo_runs.specs.Watches.{first_venues_texts}
use Rattle.nbbo_runs.proofs.watched_format.WatchedFormat.write_seen.Goals as goal

pub returns : goal.returns
returns g c =
    let w : Writing g.row.E.Denot = writing_of g.E.TextOut in
    let s = c.args.self.now in
    let ordinals = c.args.ordinals.now in
    let told = c.write_venues.new.errors in
    let end = c.write_sessions.new.errors in
    says_each w (first_venues_texts s.input.now s.venues s.looks (length s.sessions.now))
    (sessions_texts s.next.now ordinals (session_rows s.seen)) c.args.errors.now told end
    c.write_venues.ensures
    (subst (λ (rows : List SessionRow). SaysEach w (sessions_texts s.next.now ordinals rows) told
    end) c.rows.ensures c.write_sessions.ensures)
