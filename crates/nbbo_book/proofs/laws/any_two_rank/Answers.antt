use Rattle.nbbo_book.specs.Sides.{age_of}
use Rattle.nbbo_book.proofs.Beating.{beats_one_way}
use Rattle.nbbo_book.proofs.LawProofs.{either_beats}
use Rattle.nbbo_book.proofs.laws.any_two_rank.Goals as goal

pub returns-clause-either : goal.returns-clause-either
returns-clause-either c = λ es s b x y h k differ. either_beats es s b x y h k differ

pub returns-clause-one_way : goal.returns-clause-one_way
returns-clause-one_way c = λ es s b x y p q. beats_one_way b (λ v. age_of es v s b) x y p q
