use Rattle.std.proofs.Common.{◌≡◌, drop}
use Rattle.line_discovery.specs.Standings.{is_first_at}
use Rattle.line_discovery.proofs.standing.is_first_at.Given as goal

abbrev pub invariant-loop-one : goal.invariant-loop-one
invariant-loop-one l = is_first_at l.rows l.row ≡ is_first_at (drop l.one-index l.rows) l.row
