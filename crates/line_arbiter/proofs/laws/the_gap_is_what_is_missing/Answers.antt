use Rattle.line_arbiter.proofs.GapLaws.{gap_is, gap_one}
use Rattle.line_arbiter.proofs.laws.the_gap_is_what_is_missing.Goals as goal

pub returns-clause-is : goal.returns-clause-is
returns-clause-is c = λ session window sent packets. gap_is window sent packets session

pub returns-clause-one : goal.returns-clause-one
returns-clause-one c = λ session window sent packets gap is. gap_one window
    sent packets session gap is
