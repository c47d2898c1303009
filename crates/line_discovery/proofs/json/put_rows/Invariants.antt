use Rattle.std.proofs.Common.{◌≡◌, ◌++◌, flat_map, take}
use Rattle.line_discovery.specs.SurveyTexts.{json_line}
use Rattle.line_discovery.specs.Tables.{rows_of}
use Rattle.line_discovery.proofs.json.put_rows.Given as goal

abbrev pub invariant-loop-row : goal.invariant-loop-row
invariant-loop-row l = l.text.items ≡ l.fn.text.items
    ++ flat_map (json_line l.style (rows_of l.others) l.rows) (take l.row-index l.rows)
