use Rattle.std.proofs.Common.{arith}
use Rattle.text_out.specs.laws.Places.{placed_front}
use Rattle.text_out.proofs.fields.place_word.Goals as goal

pub returns : goal.returns
returns g c = placed_front _ _ _ _ _ c.args.len c.place.ensures (omega arith) (omega arith)
