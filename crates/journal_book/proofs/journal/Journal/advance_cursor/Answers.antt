use Rattle.journal_book.proofs.Offering.{stands_within}
use Rattle.journal_book.proofs.journal.Journal.advance_cursor.Goals as goal

pub move_on-requires : goal.move_on-requires
move_on-requires c = stands_within c.args.self.now c.args.id c.requires
