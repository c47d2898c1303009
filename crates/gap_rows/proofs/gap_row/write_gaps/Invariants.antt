use Rattle.event_sinks.specs.TextPages.{TakesPage}
use Rattle.report_rows.specs.FirstTexts.{first_texts}
use Rattle.gap_rows.specs.GapCells.{gap_row_at}
use Rattle.gap_rows.proofs.gap_row.write_gaps.Given as goal

abbrev pub invariant-loop-place : goal.invariant-loop-place
invariant-loop-place g l =
    TakesPage g.W.TextOut.adds g.W.TextOut.failures l.fn.page
    (first_texts (gap_row_at l.format l.venue l.gaps) l.place) l.page
