use Rattle.std.proofs.Common.{◌≡◌, drop}
use Rattle.line_discovery.specs.Looks.{is_first_of}
use Rattle.line_discovery.proofs.look.is_first_of.Given as goal

abbrev pub invariant-loop-one : goal.invariant-loop-one
invariant-loop-one l = is_first_of l.rows l.row ≡ is_first_of (drop l.one-index l.rows) l.row
