use Rattle.nbbo_book.proofs.EntryEffects.{age-≤}
use Rattle.nbbo_book.proofs.LawProofs.{age_holds, age_least}
use Rattle.nbbo_book.proofs.laws.age_is_the_first.Goals as goal

pub returns-clause-within : goal.returns-clause-within
returns-clause-within c = λ es v s b. age-≤ es v s b

pub returns-clause-from_then_on : goal.returns-clause-from_then_on
returns-clause-from_then_on c = λ es v s b n low high. age_holds es v s b n low high

pub returns-clause-from_no_earlier : goal.returns-clause-from_no_earlier
returns-clause-from_no_earlier c = λ es v s b p l h. age_least es v s b p l h
