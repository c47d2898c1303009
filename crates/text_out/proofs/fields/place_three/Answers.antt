use Rattle.text_out.proofs.Digits.{front_at}
use Rattle.text_out.specs.laws.Places.{placed_as}
use Rattle.text_out.proofs.fields.place_three.Goals as goal

pub returns-clause-placed : goal.returns-clause-placed
returns-clause-placed c =
    placed_as _ _ _ _ _ _ c.place_word.ensures
    (rw c.digit_count.ensures.value (front_at c.args.number c.requires.small))
