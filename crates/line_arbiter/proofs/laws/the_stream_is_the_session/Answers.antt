use Rattle.line_arbiter.specs.laws.Giving.{gives_session}
use Rattle.line_arbiter.proofs.laws.the_stream_is_the_session.Goals as goal

pub returns : goal.returns
returns c = gives_session
