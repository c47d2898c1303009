-- How a subscriber's cursor moves: on to the next change that it wants, and past that once it was
-- offered.
use Rattle.std.specs.Prelude.{◌≡◌, ℕ, ◌+◌, ◌<◌, ◌≤◌, List, Option, Some, MatchOption, IsTrue, filter, length, drop, take, slice_get, slice_set}
use Rattle.feed_types.specs.declared.journal.Notice.{Notice}
use Rattle.filter_terms.specs.Terms.{meets}
use Rattle.journal_book.specs.declared.cursor.Cursor.{Cursor}
use Rattle.journal_book.specs.Journals.{JournalState, changes}
use Rattle.journal_book.specs.Places.{IsNextPlace}

-- these are the changes that weren't looked at for the subscriber
pub record IsUnseen (state : JournalState) (id : ℕ) (unseen : List Notice) : Type 0 where
  pub cursor : Cursor
  pub at : slice_get state.cursors id ≡ Some cursor
  pub within : cursor.seen ≤ length (changes state)
  pub is : unseen ≡ drop cursor.seen (changes state)

-- these are the last changes, with all that weren't looked at for some subscriber
pub record KeepsUnseen (state : JournalState) (kept : List Notice) : Type 0 where
  pub first : ℕ
  pub is : kept ≡ drop first (changes state)
  pub unseen : (id : ℕ) (cursor : Cursor) → slice_get state.cursors id ≡ Some cursor
      → first ≤ cursor.seen

-- there is such a subscriber, and `step` changes at least weren't looked at for it
abbrev pub HasUnseen : JournalState → ℕ → ℕ → Type 0
HasUnseen state id step = MatchOption (slice_get state.cursors id) ⊥
    (λ cursor. cursor.seen + step ≤ length (changes state))

-- the cursor is this many places further on, and nothing else is another than before
abbrev pub MovesOn : JournalState → ℕ → ℕ → JournalState → Type 0
MovesOn old id step new = MatchOption (slice_get old.cursors id) ⊥
    (λ cursor. new ≡ record old {
      cursors = slice_set old.cursors id (record cursor { seen = cursor.seen + step });
    })

-- The cursor is at the next change that meets the subscriber's terms, or at the end, and this is
-- the change there; nothing else is another than before.
pub record GoesToNext (old : JournalState) (id : ℕ) (found : Option Notice) (new : JournalState)
    : Type 0 where
  pub cursor : Cursor
  pub at : slice_get old.cursors id ≡ Some cursor
  pub place : ℕ
  pub next : IsNextPlace (meets cursor.terms) (changes old) cursor.seen place
  pub found_is : found ≡ slice_get (changes old) place
  pub moved : new
      ≡ record old { cursors = slice_set old.cursors id (record cursor { seen = place }) }

-- The cursor is this many places further on and before the end, none of the changes that it passed
-- meets the subscriber's terms, and nothing else is another than before.
pub record PassesUnwanted (old : JournalState) (id most : ℕ) (new : JournalState) : Type 0 where
  pub cursor : Cursor
  pub at : slice_get old.cursors id ≡ Some cursor
  pub more : cursor.seen + most < length (changes old)
  pub unwanted : filter (meets cursor.terms) (take (cursor.seen + most) (changes old))
      ≡ filter (meets cursor.terms) (take cursor.seen (changes old))
  pub moved : new ≡ record old {
    cursors = slice_set old.cursors id (record cursor { seen = cursor.seen + most });
  }

-- the cursor stands at a change that meets the subscriber's terms
pub record StandsAtWanted (state : JournalState) (id : ℕ) : Type 0 where
  pub cursor : Cursor
  pub at : slice_get state.cursors id ≡ Some cursor
  pub notice : Notice
  pub here : slice_get (changes state) cursor.seen ≡ Some notice
  pub wanted : IsTrue (meets cursor.terms notice)

-- the cursor is past the change where it stood, and nothing else is another than before
abbrev pub AdvancesCursor : JournalState → ℕ → JournalState → Type 0
AdvancesCursor old id new = MovesOn old id 1 new
