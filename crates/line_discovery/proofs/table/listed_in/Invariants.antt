use Rattle.std.proofs.Common.{◌≡◌, take}
use Rattle.line_discovery.specs.Tables.{listed_in}
use Rattle.line_discovery.proofs.table.listed_in.Given as goal

abbrev pub invariant-loop-row : goal.invariant-loop-row
invariant-loop-row l = l.listed ≡ listed_in (take l.row-index l.rows)
