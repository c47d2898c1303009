use Rattle.line_arbiter.specs.laws.SkipAnswers.{every_skip}
use Rattle.line_arbiter.proofs.laws.every_skip_has_an_answer.Goals as goal

pub returns : goal.returns
returns c = every_skip
