use Rattle.event_sinks.specs.TextPages.{TakesPage}
use Rattle.report_rows.specs.FirstTexts.{first_texts}
use Rattle.period_rows.specs.CountRows.{text_at}
use Rattle.period_rows.proofs.count_rows.write_periods.Given as goal

abbrev pub invariant-loop-place : goal.invariant-loop-place
invariant-loop-place g l =
    TakesPage g.W.TextOut.adds g.W.TextOut.failures l.fn.page
    (first_texts (text_at l.format l.lines l.periods) l.place) l.page
