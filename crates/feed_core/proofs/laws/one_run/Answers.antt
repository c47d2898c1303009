use Rattle.feed_core.proofs.OneRunLaw.{run_once}
use Rattle.feed_core.proofs.laws.one_run.Goals as goal

pub returns-clause-outcomes : goal.returns-clause-outcomes
returns-clause-outcomes c = λ s old events a b v w p q. (run_once s old events a b v w p q).outcomes

pub returns-clause-world : goal.returns-clause-world
returns-clause-world c = λ s old events a b v w p q. (run_once s old events a b v w p q).world
