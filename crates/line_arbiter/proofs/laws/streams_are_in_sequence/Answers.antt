use Rattle.line_arbiter.specs.laws.InSequence.{streams_in_sequence}
use Rattle.line_arbiter.proofs.laws.streams_are_in_sequence.Goals as goal

pub returns : goal.returns
returns g c = λ venue h all. streams_in_sequence g.G.Genuine.carries g.G.Genuine.ends venue h all
