use Rattle.std.proofs.Common.{◌≡◌, ◌++◌, flat_map, take}
use Rattle.line_discovery.specs.Looks.{look_row}
use Rattle.line_discovery.proofs.look.put_looks.Given as goal

abbrev pub invariant-loop-row : goal.invariant-loop-row
invariant-loop-row l = l.text.items ≡ l.fn.text.items
    ++ flat_map (look_row l.rows) (take l.row-index l.rows)
