use Rattle.std.proofs.Common.{ℕ, arith, add-one, sym, subst, length}
use Rattle.text_out.specs.Pages.{Appends}
use Rattle.report_rows.specs.RowTexts.{all_shown, first_cells, room_of, texts_of}
use Rattle.best_rows.specs.AppendLaws.{appends_more}
use Rattle.report_rows.proofs.Appending.{room_next, short_at}
use Rattle.report_rows.proofs.row.put_cells.Goals as goal

pub put_cell_at-requires-clause-room : goal.put_cell_at-requires-clause-room
put_cell_at-requires-clause-room c =
    let names = texts_of c.args.names.now in
    let n = c.loop-place.place in
    let next = room_next names n (length c.args.names.now) (omega (arith, c.loop-place-test.true))
    in
    omega (
      arith,
      next,
      c.requires.room,
      c.loop-place.invariant.few,
      c.loop-place.invariant.room,
    )

pub put_cell_at-requires-clause-short : goal.put_cell_at-requires-clause-short
put_cell_at-requires-clause-short c =
    short_at c.args.cells.now c.loop-place.place c.requires.short

pub loop-place-preserved : goal.loop-place-preserved
loop-place-preserved c =
    let names = texts_of c.args.names.now in
    let cells = all_shown c.args.cells.now in
    let n = c.loop-place.place in
    subst (λ (k : ℕ). Appends c.args.text.now (first_cells c.args.format.now names cells k)
    (room_of names k) c.put_cell_at.new.text) (sym (add-one n))
    (appends_more c.loop-place.invariant c.put_cell_at.ensures)
