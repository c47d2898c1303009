use Rattle.text_out.specs.Pages.{Appends}
use Rattle.report_rows.specs.RowTexts.{all_shown, first_cells, room_of, texts_of}
use Rattle.report_rows.proofs.row.put_cells.Given as goal

abbrev pub invariant-loop-place : goal.invariant-loop-place
invariant-loop-place l =
    Appends l.fn.text (first_cells l.format (texts_of l.names) (all_shown l.cells) l.place)
    (room_of (texts_of l.names) l.place) l.text
