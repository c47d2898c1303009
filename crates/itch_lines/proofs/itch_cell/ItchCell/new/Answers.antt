use Rattle.std.proofs.Common.{rules}
use Rattle.itch_lines.proofs.Given.{given_nothing}
use Rattle.itch_lines.proofs.itch_cell.ItchCell.new.Goals as goal

pub invariant_of-result : goal.invariant_of-result
invariant_of-result c = search (rules, given_nothing)
