use Rattle.line_arbiter.specs.laws.Fronts.{front_is, front_greatest}
use Rattle.line_arbiter.proofs.laws.the_front_is_the_first_gap.Goals as goal

pub returns-clause-taken : goal.returns-clause-taken
returns-clause-taken c = λ packets. (front_is packets).all

pub returns-clause-greatest : goal.returns-clause-greatest
returns-clause-greatest c = front_greatest

pub returns-clause-next : goal.returns-clause-next
returns-clause-next c = λ packets. (front_is packets).next
