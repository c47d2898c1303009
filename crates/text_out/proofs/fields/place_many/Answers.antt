use Rattle.std.proofs.Common.{sym, arith}
use Rattle.text_out.proofs.Digits.{decimal_four}
use Rattle.text_out.specs.laws.Places.{placed_as, placed_more}
use Rattle.text_out.proofs.fields.place_many.Goals as goal

pub returns-clause-placed : goal.returns-clause-placed
returns-clause-placed c =
    placed_as _ _ _ _ _ _
    (placed_more _ _ _ _ _ _ _ _ c.place_four-at.ensures.placed
    (placed_more _ _ _ _ _ _ _ _ c.place_pair-at.ensures c.place_pair.ensures))
    (sym (decimal_four c.args.number (omega arith) (omega arith)))
