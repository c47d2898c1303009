use Rattle.line_arbiter.proofs.Naming.{genuine_named}
use Rattle.line_arbiter.proofs.laws.packets_of_sessions_are_genuine.Goals as goal

pub returns : goal.returns
returns g c = λ venue ordinal all session p names at content of. genuine_named g.G.Genuine.sessions
    g.G.Genuine.carries g.G.Genuine.ends venue ordinal all session p names at content of
