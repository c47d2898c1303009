-- Cited by private clauses alone: what a journal keeps of its parts.
use Rattle.std.specs.Prelude.{◌≡◌, ℕ, ◌+◌, ◌*◌, ◌^◌, ◌<◌, ◌≤◌, nat_lt, nat_le, Bool, ◌&&◌, List, Option, Some, length, drop, slice_get, slice_set, MatchOption}
use Rattle.std.specs.List.{AllByRecursion}
use Rattle.feed_types.specs.declared.journal.Entry.{Entry}
use Rattle.feed_types.specs.declared.journal.Notice.{Notice}
use Rattle.nbbo_book.specs.declared.change.Change.{Change}
use Rattle.nbbo_book.specs.Books.{BookState, FitsBook}
use Rattle.journal_book.specs.declared.cursor.Cursor.{Cursor}
use Rattle.journal_book.specs.Changes.{changes_of, notices_from}
use Rattle.journal_book.specs.Journals.{JournalState, changes, kept_of}
use Rattle.journal_book.specs.NumberedBooks.{NumberedState, before_last, latest_of}

-- Of a numbered book: the entries were applied, each at its number, no more than this many; the
-- count of earlier changes and the last entry's changes are those of the entries; and there is room
-- for the changes of one more.
pub record NumbersEntries (book : BookState) (limit : ℕ) (entries : List Entry) (earlier : ℕ)
    (latest : List Change) (room : ℕ) : Type 0 where
  pub fits : FitsBook book entries
  pub last : book.last ≡ length entries
  pub symbols : length book.symbols ≤ 4096
  pub room_is : length book.symbols ≤ room
  pub within : length entries ≤ limit
  pub limited : limit ≤ 4294967295
  pub few : length latest ≤ length book.symbols
  pub before : earlier ≡ length (changes_of book.symbols (before_last entries))
  pub all : earlier + length latest ≡ length (changes_of book.symbols entries)
  pub bounded : earlier + length latest ≤ length entries * 4096
  pub made : notices_from (earlier + 1) latest ≡ latest_of book.symbols entries

-- the cursor is past all changes that were let go, and not past the last one
pub record IsWithin (first end : ℕ) (cursor : Cursor) : Type 0 where
  pub from : first ≤ cursor.seen
  pub to : cursor.seen ≤ end

-- Of a journal: its entries are all or none, its counts are of all of them, its notices are the
-- changes of the book's entries from
-- `first` on, and the cursors are within them. Where not all are kept there is room for one entry,
-- and for its changes beside as many as a subscriber may be behind.
pub record Keeps (numbered : NumberedState) (counted : List Entry) (kept : Option ℕ)
    (entries : List Entry) (entry_room first : ℕ) (notices : List Notice) (notice_room : ℕ)
    (cursors : List Cursor)
    : Type 0 where
  pub same : entries ≡ kept_of kept numbered.entries
  pub counts : counted ≡ numbered.entries
  pub room : MatchOption kept (first ≡ 0)
      (λ most. (0 < entry_room) × (most + length numbered.symbols ≤ notice_room))
  pub run : notices ≡ drop first (changes_of numbered.symbols numbered.entries)
  pub within : length numbered.entries ≤ numbered.journal
  pub limited : numbered.journal ≤ 4294967295
  pub begun : first ≤ length (changes_of numbered.symbols numbered.entries)
  pub small : length (changes_of numbered.symbols numbered.entries) < 2 ^ 44
  pub few : length cursors ≤ 32
  pub seen : AllByRecursion
      (IsWithin first (length (changes_of numbered.symbols numbered.entries))) cursors

-- these changes are kept, all but the first ones, and those before this place among them were
-- looked at for the subscriber
pub record IsRest (state : JournalState) (id : ℕ) (rest : List Notice) (place : ℕ) : Type 0 where
  pub cursor : Cursor
  pub at : slice_get state.cursors id ≡ Some cursor
  pub gone : ℕ
  pub begun : gone ≤ length (changes state)
  pub is : rest ≡ drop gone (changes state)
  pub seen : cursor.seen ≡ gone + place
  pub within : place ≤ length rest

-- there is room for one more entry, within the journal's limit, and for all its changes
abbrev pub has_room : ℕ → ℕ → ℕ → ℕ → ℕ → ℕ → ℕ → Bool
has_room limit symbols count entries entry_room notices notice_room =
    nat_lt count limit
    && (nat_lt entries entry_room && nat_le (notices + symbols) notice_room)

-- the cursor at the index is this many places further on, and the others are unchanged
abbrev pub CursorMoves : List Cursor → ℕ → ℕ → List Cursor → Type 0
CursorMoves old index step new = MatchOption (slice_get old index) ⊥
    (λ cursor. new ≡ slice_set old index (record cursor { seen = cursor.seen + step }))
