use Rattle.std.proofs.Common.{◌/◌}
use Rattle.std.specs.Prelude.{decimal}
use Rattle.text_out.proofs.Digits.{price_digits}
use Rattle.text_out.specs.laws.Places.{placed_as, placed_more}
use Rattle.text_out.proofs.fields.place_price.Goals as goal

pub returns-clause-placed : goal.returns-clause-placed
returns-clause-placed c =
    placed_as _ _ _ _ _ _
    (placed_more _ _ _ _ _ _ _ _ c.place_dollars-at.ensures.placed
    (placed_more _ _ _ _ _ _ _ _ c.place-at.ensures
    (placed_more _ _ _ _ _ _ _ _ c.place_pair-at.ensures c.place_pair.ensures)))
    (price_digits (decimal (c.args.price / 10000)) c.args.price)
