use Rattle.event_sinks.specs.TextPages.{TakesPage}
use Rattle.report_rows.specs.FirstTexts.{first_texts}
use Rattle.period_rows.specs.CountRows.{row_in}
use Rattle.period_rows.proofs.count_rows.write_period.Given as goal

abbrev pub invariant-loop-place : goal.invariant-loop-place
invariant-loop-place g l =
    TakesPage g.W.TextOut.adds g.W.TextOut.failures l.fn.page
    (first_texts (row_in l.format l.period) l.place) l.page
