-- Cited by private clauses alone: how many changes the slowest subscriber has looked at.
use Rattle.std.specs.Prelude.{ℕ, min, List, fold}
use Rattle.journal_book.specs.declared.cursor.Cursor.{Cursor}

-- the least number of changes that were looked at, and this one where there is no subscriber
abbrev pub slowest : ℕ → List Cursor → ℕ
slowest end cursors = fold (λ least cursor. min least cursor.seen) end cursors
