use Rattle.event_sinks.specs.TextPages.{TakesPage}
use Rattle.report_rows.specs.FirstTexts.{first_texts}
use Rattle.period_rows.specs.BestTimes.{figures_row}
use Rattle.period_rows.proofs.best_times.write_venues.Given as goal

abbrev pub invariant-loop-venue : goal.invariant-loop-venue
invariant-loop-venue g l =
    TakesPage g.W.TextOut.adds g.W.TextOut.failures l.fn.page
    (first_texts (figures_row l.over l.symbol l.figures) l.venue) l.page
