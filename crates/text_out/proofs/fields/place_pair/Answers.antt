use Rattle.text_out.proofs.Digits.{pairs_at}
use Rattle.text_out.specs.laws.Places.{placed_as}
use Rattle.text_out.proofs.fields.place_pair.Goals as goal

pub returns : goal.returns
returns c = placed_as _ _ _ _ _ _ c.place.ensures (pairs_at c.args.number c.requires.small)
