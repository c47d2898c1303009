use Rattle.line_arbiter.specs.laws.OfSession.{part_of_session}
use Rattle.line_arbiter.specs.laws.Accepting.{accepted}
use Rattle.line_arbiter.proofs.laws.no_genuine_packet_is_refused.Goals as goal

pub returns : goal.returns
returns g c = λ venue ordinal window sent all s packets p answer genuine content of outcome.
    accepted s packets (part_of_session g.G.Genuine.sessions g.G.Genuine.carries g.G.Genuine.ends
    venue ordinal all s packets genuine.lines genuine.at genuine.genuine genuine.within) window
    sent p answer content of outcome
