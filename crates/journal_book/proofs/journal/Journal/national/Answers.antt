use Rattle.journal_book.proofs.journal.Journal.national.Goals as goal

pub returns-clause-value : goal.returns-clause-value
returns-clause-value c = rw (← c.self.view_is) (c.national.ensures.value _ c.book.ensures.fits)
