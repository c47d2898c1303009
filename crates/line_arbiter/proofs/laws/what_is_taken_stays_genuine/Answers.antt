use Rattle.line_arbiter.specs.laws.Arrivals.{genuine_grows}
use Rattle.line_arbiter.proofs.laws.what_is_taken_stays_genuine.Goals as goal

pub returns : goal.returns
returns g c = λ venue ordinal window session packets a all genuine right. genuine_grows
    g.G.Genuine.carries g.G.Genuine.ends venue ordinal window session packets a all genuine right
