use Rattle.nbbo_book.proofs.LawProofs.{best_is, best_found, nobody_is, is_nobody}
use Rattle.nbbo_book.proofs.laws.one_best.Goals as goal

pub returns-clause-best : goal.returns-clause-best
returns-clause-best c = λ es s b x. (best_is es s b x, best_found es s b x)

pub returns-clause-none : goal.returns-clause-none
returns-clause-none c = λ es s b. (nobody_is es s b, is_nobody es s b)
