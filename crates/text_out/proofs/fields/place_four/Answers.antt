use Rattle.std.proofs.Common.{sym, arith}
use Rattle.text_out.proofs.Digits.{decimal_pair}
use Rattle.text_out.specs.laws.Places.{placed_as, placed_more}
use Rattle.text_out.proofs.fields.place_four.Goals as goal

pub returns-clause-placed : goal.returns-clause-placed
returns-clause-placed c =
    placed_as _ _ _ _ _ _ (placed_more _ _ _ _ _ _ _ _ c.place_two-at.ensures.placed
    c.place_pair.ensures)
    (sym (decimal_pair c.args.number (omega arith) (omega arith)))
