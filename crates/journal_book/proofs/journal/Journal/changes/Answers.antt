use Rattle.std.proofs.Common.{◌∙◌, length}
use Rattle.journal_book.specs.Changes.{changes_of}
use Rattle.journal_book.proofs.CursorMoving.{cursor_within}
use Rattle.journal_book.proofs.journal.Journal.changes.Goals as goal

pub returns-clause-kept : goal.returns-clause-kept
returns-clause-kept c =
    let old = c.self.inside in
    let end = length (changes_of old.numbered.symbols old.numbered.entries) in
    rw (← c.self.view_is) (record {
      first = old.first;
      is = c.as_slice.ensures.value ∙ c.self.invariant.run;
      unseen = λ id cursor at.
          (cursor_within old.first end old.cursors.items id cursor at c.self.invariant.seen).from;
    })
