-- What a journal keeps once it let go of what all cursors have passed.
use Rattle.std.proofs.Common.{ℕ, ◌≡◌, ◌+◌, ◌-◌, ◌<◌, ◌≤◌, true, List, Some, ap, ◌∙◌, length, drop, arith, length-drop}
use Rattle.std.proofs.lemmas.List.{drop-drop}
use Rattle.std.proofs.lemmas.Bool.Decides.{nat_tests}
use Rattle.feed_types.specs.declared.journal.Entry.{Entry}
use Rattle.feed_types.specs.declared.journal.Notice.{Notice}
use Rattle.journal_book.specs.declared.cursor.Cursor.{Cursor}
use Rattle.journal_book.specs.Changes.{changes_of}
use Rattle.journal_book.specs.Journals.{JournalState, changes, IsBehind}
use Rattle.journal_book.specs.Keeping.{has_room, Keeps}
use Rattle.journal_book.specs.NumberedBooks.{NumberedState}
use Rattle.journal_book.specs.Slowest.{slowest}
use Rattle.journal_book.proofs.CursorMoving.{slowest_from, slowest_within, within_slowest, some_behind}

module _ (numbered : NumberedState) (counted : List Entry) (kept first : ℕ) (entries : List Entry)
    (entry_room : ℕ) (notices : List Notice)
    (notice_room : ℕ) (cursors : List Cursor)
    (keeps : Keeps numbered counted (Some kept) entries entry_room first notices
    notice_room cursors) where
  abbrev all : List Notice
  all = changes_of numbered.symbols numbered.entries

  abbrev now : ℕ
  now = slowest (length all) cursors

  pub goes_forth : first ≤ now
  goes_forth = slowest_from first (length all) (length all) cursors keeps.begun keeps.seen

  -- what all have passed is kept
  pub few_enough : now ≤ first + length notices
  few_enough =
      let end : now ≤ length all = slowest_within (length all) cursors in
      let count : length notices ≡ length all - first = ap length keeps.run
      ∙ length-drop first all in
      omega arith

  pub lets_go : Keeps numbered counted (Some kept) entries entry_room now
      (drop (now - first) notices) notice_room cursors
  lets_go =
      let forth : first ≤ now = goes_forth in
      let place : first + (now - first) ≡ now = omega arith in
      record {
        same = keeps.same;
        counts = keeps.counts;
        room = keeps.room;
        run = ap (drop (now - first)) keeps.run ∙ drop-drop (now - first) first all
            ∙ ap (λ (n : ℕ). drop n all) place;
        within = keeps.within;
        limited = keeps.limited;
        begun = slowest_within (length all) cursors;
        small = keeps.small;
        few = keeps.few;
        seen = within_slowest now first (length all) (length all) cursors (omega arith) keeps.seen;
      }

  -- and there is room
  pub makes_room : length numbered.entries < numbered.journal → length all - now ≤ kept
      → has_room numbered.journal (length numbered.symbols) (length numbered.entries)
      (length entries) entry_room
      (length (drop (now - first) notices)) notice_room ≡ true
  makes_room below few =
      let none : length entries ≡ 0 = ap length keeps.same in
      let entry : 0 < entry_room = keeps.room.0 in
      let room : kept + length numbered.symbols ≤ notice_room = keeps.room.1 in
      let count : length (drop (now - first) notices) ≡ length all - now = ap length lets_go.run
      ∙ length-drop now all in
      grind (arith, nat_tests)

-- the slowest one is behind
pub is_behind : (state : JournalState) (most : ℕ) → state.kept ≡ Some most
    → slowest (length (changes state)) state.cursors + most < length (changes state)
    → IsBehind state
is_behind state most kept low =
    let found = some_behind most (length (changes state)) state.cursors low in
    record {
      most = most;
      kept = kept;
      id = found.id;
      cursor = found.cursor;
      at = found.at;
      behind = found.behind;
    }
