use Rattle.line_arbiter.specs.laws.OneOutcome.{one_answer}
use Rattle.line_arbiter.proofs.laws.one_outcome.Goals as goal

pub returns : goal.returns
returns c = one_answer
