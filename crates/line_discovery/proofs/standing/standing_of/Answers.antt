use Rattle.std.proofs.Common.{ap, ◌∙◌}
use Rattle.line_discovery.specs.Standings.{session_lines, standing_by}
use Rattle.line_discovery.proofs.ThreeRows.{three_show}
use Rattle.line_discovery.proofs.standing.standing_of.Goals as goal

pub returns : goal.returns
returns c =
    let rows = c.args.rows.now in
    let row = c.args.row.now in
    c.standing_by.ensures
    ∙ ap (standing_by rows row) (c.as_slice.ensures.value ∙ c.in_ok-lines.ensures)
    ∙ three_show rows row (session_lines rows row)
