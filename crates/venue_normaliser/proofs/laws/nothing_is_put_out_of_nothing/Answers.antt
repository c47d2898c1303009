use Rattle.std.proofs.Common.{[], arith, refl}
use Rattle.venue_normaliser.proofs.Making.{made_none}
use Rattle.venue_normaliser.proofs.laws.nothing_is_put_out_of_nothing.Goals as goal

pub returns : goal.returns
returns c = λ keys. record { one = omega arith; items = []; made = made_none keys []; is = refl }
