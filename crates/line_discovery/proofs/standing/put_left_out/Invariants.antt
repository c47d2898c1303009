use Rattle.std.proofs.Common.{◌≡◌, ◌++◌, flat_map, take}
use Rattle.line_discovery.specs.Standings.{left_of}
use Rattle.line_discovery.proofs.standing.put_left_out.Given as goal

abbrev pub invariant-loop-row : goal.invariant-loop-row
invariant-loop-row l = l.text.items ≡ l.fn.text.items
    ++ flat_map (left_of l.rows) (take l.row-index l.rows)
