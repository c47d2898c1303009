use Rattle.venue_lines.proofs.CellMoves.{PushesSoFar}
use Rattle.venue_lines.proofs.calls.push_each.Given as goal

abbrev pub invariant-loop-pushed : goal.invariant-loop-pushed
invariant-loop-pushed g l = PushesSoFar l.pushed l.fn.cell l.cell
