use Rattle.std.proofs.Common.{[], ◌∷◌}
use Rattle.text_out.specs.Devices.{Writing}
use Rattle.text_out.specs.Members.{writing_of}
use Rattle.text_out.specs.laws.SaidTexts.{says_each, says_one}
use Rattle.run_notes.specs.SessionNames.{name_texts}
use Rattle.run_watches.proofs.line_news.write_session.Goals as goal

pub returns : goal.returns
returns g c =
    let w : Writing g.row.E.Denot = writing_of g.E.TextOut in
    let named = c.write_session_name.new.errors in
    let last = c.write_stderr.new.errors in
    says_each w (name_texts c.args.session.now) (c.args.end.now ∷ []) c.args.errors.now named last
    c.write_session_name.ensures
    (says_one w c.args.end.now named last c.write_stderr.ensures)
