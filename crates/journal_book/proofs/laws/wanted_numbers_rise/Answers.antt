use Rattle.journal_book.specs.Wanted.{wanted_of}
use Rattle.journal_book.specs.Rising.{wanted_rise, pairs_rise}
use Rattle.journal_book.proofs.laws.wanted_numbers_rise.Goals as goal

pub returns-clause-past : goal.returns-clause-past
returns-clause-past c = wanted_rise

pub returns-clause-pairs : goal.returns-clause-pairs
returns-clause-pairs c = λ symbols terms entries. pairs_rise 0 (wanted_of symbols terms entries)
    (wanted_rise symbols terms entries)
