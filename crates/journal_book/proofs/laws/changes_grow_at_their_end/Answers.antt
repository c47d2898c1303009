use Rattle.journal_book.specs.Growth.{changes_begin}
use Rattle.journal_book.proofs.laws.changes_grow_at_their_end.Goals as goal

pub returns : goal.returns
returns c = changes_begin
