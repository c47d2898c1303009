use Rattle.feed_types.specs.declared.line.LineId.TheVariants.{A, B, Recovery}
use Rattle.message_types.specs.TypeTexts.{rows_of_line}
use Rattle.message_types.proofs.FirstRows.{last_of_three}
use Rattle.message_types.proofs.rows.put_venue.Goals as goal

pub returns : goal.returns
returns c =
    let rows = rows_of_line c.args.format c.args.counts.now c.args.venue in
    last_of_three c.put_line-3.result c.args.text.now.items c.put_line.new.text.items
    c.put_line-2.new.text.items c.put_line-3.new.text.items (rows A) (rows B) (rows Recovery)
    c.in_ok-put_line.ensures c.in_ok-put_line-2.ensures c.put_line-3.ensures
