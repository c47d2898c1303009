use Rattle.journal_book.specs.Prefixes.{prefix_then, wanted_begin}
use Rattle.journal_book.proofs.laws.wanted_grow_at_their_end.Goals as goal

pub returns : goal.returns
returns c = λ symbols terms entries more offered h. prefix_then offered _ _ h
    (wanted_begin symbols terms entries more)
