use Rattle.std.proofs.Common.{arith, length}
use Rattle.report_rows.specs.RowTexts.{texts_of}
use Rattle.report_rows.proofs.Appending.{room_next}
use Rattle.report_rows.proofs.row.put_names.Goals as goal

pub put_name_at-requires-clause-room : goal.put_name_at-requires-clause-room
put_name_at-requires-clause-room c =
    let names = texts_of c.args.names.now in
    let next = room_next names c.loop-place.place (length c.args.names.now)
    (omega (arith, c.loop-place-test.true)) in
    omega (arith, next, c.requires, c.loop-place.invariant.few, c.loop-place.invariant.room)
