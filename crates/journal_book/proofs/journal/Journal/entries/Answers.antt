use Rattle.std.proofs.Common.{◌∙◌}
use Rattle.journal_book.proofs.journal.Journal.entries.Goals as goal

pub returns-clause-value : goal.returns-clause-value
returns-clause-value c = rw (← c.self.view_is) (c.as_slice.ensures.value ∙ c.self.invariant.same)
