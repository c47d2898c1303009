use Rattle.std.proofs.Common.{arith}
use Rattle.journal_book.proofs.numbered_book.NumberedBook.latest.Goals as goal

pub overflow_add-result : goal.overflow_add-result
overflow_add-result c =
    let keeps = c.self.invariant in
    record { fits = omega (arith, keeps.bounded, keeps.within, keeps.limited) }
