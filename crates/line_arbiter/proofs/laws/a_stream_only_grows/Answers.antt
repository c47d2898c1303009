use Rattle.line_arbiter.specs.laws.Below.{answered_grows}
use Rattle.line_arbiter.proofs.laws.a_stream_only_grows.Goals as goal

pub returns : goal.returns
returns c = answered_grows
