use Rattle.line_arbiter.specs.laws.SkipAnswers.{one_skip}
use Rattle.line_arbiter.proofs.laws.one_skip.Goals as goal

pub returns : goal.returns
returns c = one_skip
