use Rattle.text_out.specs.Members.{writing_of}
use Rattle.text_out.specs.laws.SaidTexts.{SaysRest}
use Rattle.nbbo_runs.specs.Sessions.{session_texts}
use Rattle.nbbo_runs.proofs.session_report.write_rows.Given as goal

abbrev pub invariant-loop-row : goal.invariant-loop-row
invariant-loop-row g l =
    SaysRest (writing_of g.E.TextOut)
    (session_texts l.named.next.now l.named.ordinals.now) l.rows l.row-index l.fn.errors l.errors
