use Rattle.line_arbiter.specs.laws.OfSession.{part_of_session, front_within, part_is}
use Rattle.line_arbiter.proofs.laws.a_genuine_stream_is_the_session.Goals as goal

pub returns-clause-front : goal.returns-clause-front
returns-clause-front g c = λ venue ordinal all s packets of. front_within s packets
    (part_of_session g.G.Genuine.sessions g.G.Genuine.carries g.G.Genuine.ends venue ordinal all s
    packets of.lines of.at of.genuine of.within)

pub returns-clause-stream : goal.returns-clause-stream
returns-clause-stream g c = λ venue ordinal all s packets of. part_is s packets
    (part_of_session g.G.Genuine.sessions g.G.Genuine.carries g.G.Genuine.ends venue ordinal all s
    packets of.lines of.at of.genuine of.within)
