use Rattle.std.proofs.Common.{◌∙◌, ap, set}
use Rattle.std.proofs.lemmas.Option.{get_or_from_slice_get}
use Rattle.line_discovery.specs.declared.line_row.LineRow.{LineRow}
use Rattle.line_discovery.specs.Tables.{row_with}
use Rattle.line_discovery.proofs.Growth.{line_grows}
use Rattle.line_discovery.proofs.table.grow_at.Goals as goal

pub returns : goal.returns
returns c =
    let found = c.requires.found in
    let rows = c.args.rows.now in
    let place = c.args.place in
    ap (λ (r : LineRow). set rows place r) (c.grow.ensures
    ∙ ap (row_with c.args.sighting.now) (get_or_from_slice_get rows place found.0 _ found.1))
    ∙ line_grows rows c.args.sighting.now place found.0 c.requires.apart found.1 found.2
