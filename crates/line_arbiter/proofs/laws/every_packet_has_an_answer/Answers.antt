use Rattle.line_arbiter.specs.laws.EveryAnswer.{every_answer}
use Rattle.line_arbiter.proofs.laws.every_packet_has_an_answer.Goals as goal

pub returns : goal.returns
returns c = every_answer
