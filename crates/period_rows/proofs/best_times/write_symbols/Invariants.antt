use Rattle.event_sinks.specs.TextPages.{TakesPage}
use Rattle.report_rows.specs.FirstTexts.{first_texts}
use Rattle.period_rows.specs.BestTimes.{settled_at}
use Rattle.period_rows.proofs.best_times.write_symbols.Given as goal

abbrev pub invariant-loop-place : goal.invariant-loop-place
invariant-loop-place g l =
    TakesPage g.W.TextOut.adds g.W.TextOut.failures l.fn.page
    (first_texts (settled_at l.over l.times) l.place) l.page
