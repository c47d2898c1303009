use Rattle.text_out.specs.Pages.{Appends}
use Rattle.report_rows.specs.RowTexts.{first_names, room_of, texts_of}
use Rattle.report_rows.proofs.row.put_names.Given as goal

abbrev pub invariant-loop-place : goal.invariant-loop-place
invariant-loop-place l =
    Appends l.fn.text (first_names (texts_of l.names) l.place) (room_of (texts_of l.names) l.place)
    l.text
