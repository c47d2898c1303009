use Rattle.std.proofs.Common.{◌≡◌, ◌++◌, ◌+◌, drop, vec_len}
use Rattle.std.specs.Vec.{vec_capacity}
use Rattle.journal_book.specs.Changes.{notices_from}
use Rattle.journal_book.proofs.notices.push_each.Given as goal

abbrev pub invariant-loop-change : goal.invariant-loop-change
invariant-loop-change l = record {
  items : l.notices.items
      ++ notices_from l.number (drop l.change-index l.change-items) ≡ l.fn.notices.items
      ++ notices_from l.fn.latest.first l.change-items;
  len : vec_len l.notices ≡ vec_len l.fn.notices + l.change-index;
  capacity : vec_capacity l.notices ≡ vec_capacity l.fn.notices;
  number : l.number ≡ l.fn.latest.first + l.change-index;
}
