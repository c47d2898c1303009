use Rattle.std.proofs.Common.{[], ◌∷◌, ◌++◌}
use Rattle.text_out.specs.Devices.{Writing}
use Rattle.text_out.specs.Members.{writing_of}
use Rattle.text_out.specs.laws.SaidTexts.{says_each, says_one}
use Rattle.nbbo_runs.specs.Sessions.{refused_texts}
use Rattle.run_notes.specs.SessionNames.{name_texts}
use Rattle.nbbo_runs.proofs.session_report.write_row.Goals as goal

pub returns : goal.returns
returns g c =
    let w : Writing g.row.E.Denot = writing_of g.E.TextOut in
    let row = c.args.row.now in
    let name = name_texts row.session.name in
    let why = c.args.why.now in
    let last = why ∷ [] in
    let errors_before = c.args.errors.now in
    let refused = c.write_refused.new.errors in
    let named = c.write_session_name.new.errors in
    let end = c.write_stderr.new.errors in
    says_each w (refused_texts row.session.venue row.datagrams) (name ++ last) errors_before
    refused end
    c.write_refused.ensures
    (says_each w name last refused named end c.write_session_name.ensures
    (says_one w why named end c.write_stderr.ensures))
