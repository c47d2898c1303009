use Rattle.std.proofs.Common.{Some, ap, sym, ◌∙◌}
use Rattle.std.proofs.lemmas.Option.{slice_get-get_or}
use Rattle.text_out.specs.Devices.{Writing}
use Rattle.text_out.specs.Members.{writing_of}
use Rattle.text_out.specs.laws.SaidTexts.{texts_more}
use Rattle.nbbo_runs.specs.declared.session_row.SessionRow.{SessionRow}
use Rattle.nbbo_runs.specs.Sessions.{session_texts}
use Rattle.nbbo_runs.proofs.session_report.write_rows.Goals as goal

pub loop-row-preserved : goal.loop-row-preserved
loop-row-preserved g c =
    let w : Writing g.row.E.Denot = writing_of g.E.TextOut in
    let texts = session_texts c.args.named.now.next.now c.args.named.now.ordinals.now in
    let rows = c.args.rows.now in
    let i = c.loop-row.row-index in
    let x = c.row-item.result in
    let mid = c.write_session.new.errors in
    λ t says. c.loop-row.invariant t
    (texts_more w texts rows i x c.loop-row.errors mid t
    (slice_get-get_or rows i x c.loop-row-test.true
    ∙ ap (λ (y : SessionRow). Some y) (sym c.row-item.is))
    c.write_session.ensures says)
