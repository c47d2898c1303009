-- One more entry: what room for it means, and what a book and a journal keep with it.
use Rattle.std.proofs.Common.{ℕ, ◌≡◌, ◌+◌, ◌^◌, ◌<◌, ◌≤◌, List, [], ◌∷◌, ◌++◌, Option, Some, None, ap, ◌∙◌, sym, refl, length, map, drop, arith}
use Rattle.std.specs.Prelude.{IsTrue}
use Rattle.std.proofs.lemmas.Bool.Decides.{nat_tests}
use Rattle.std.proofs.lemmas.List.{length-append, drop-append-le}
use Rattle.feed_types.specs.declared.journal.Entry.{Entry}
use Rattle.feed_types.specs.declared.journal.Notice.{Notice}
use Rattle.nbbo_book.specs.declared.change.Change.{Change}
use Rattle.nbbo_book.specs.Books.{BookState, FitsBook}
use Rattle.nbbo_book.specs.Changes.{changes_by}
use Rattle.journal_book.specs.declared.cursor.Cursor.{Cursor}
use Rattle.journal_book.specs.Changes.{changes_of, notices_from}
use Rattle.journal_book.specs.Journals.{kept_of, subscription_of}
use Rattle.journal_book.specs.Keeping.{has_room, Keeps, NumbersEntries}
use Rattle.journal_book.specs.LastEntry.{before-put, latest-put, count-put, latest-after}
use Rattle.journal_book.specs.NumberedBooks.{NumberedState, GoesOnBy, latest_of}
use Rattle.journal_book.proofs.CursorMoving.{still_within, same_offered}

-- a book that numbers its entries does so with one more
pub still_numbers : (old new : BookState) (limit earlier room : ℕ) (entries : List Entry)
    (e : Entry) (latest made : List Change)
    → NumbersEntries old limit entries earlier latest room → length entries < limit
    → FitsBook new (entries ++ e ∷ []) → new.symbols ≡ old.symbols → new.last ≡ length entries + 1
    → made ≡ changes_by old.symbols entries (length entries + 1) e
    → length made ≤ length old.symbols
    → NumbersEntries new limit (entries ++ e ∷ []) (earlier + length latest) made room
still_numbers old new limit earlier room entries e latest made h below fits same last made_is few =
    let longer : length (entries ++ e ∷ []) ≡ length entries + 1 = length-append entries (e ∷ []) in
    record {
      fits = fits;
      last = last ∙ sym longer;
      symbols = rw same h.symbols;
      room_is = rw same h.room_is;
      within = omega (arith, longer, below);
      limited = h.limited;
      few = rw same few;
      before = rw same (h.all ∙ sym (ap (λ (es : List Entry). length (changes_of old.symbols es))
          (before-put entries e)));
      all = rw same (ap (λ (n : ℕ). n + length made) h.all
          ∙ ap (λ (l : List Change). length (changes_of old.symbols entries) + length l) made_is
          ∙ sym (count-put old.symbols entries e));
      bounded = omega (arith, longer, h.bounded, few, h.symbols);
      made = rw same (ap (λ (n : ℕ). notices_from (n + 1) made) h.all
          ∙ ap (λ (l : List Change). notices_from (length (changes_of old.symbols entries) + 1) l)
          made_is
          ∙ sym (latest-put old.symbols entries e));
    }

pub below_limit : (limit symbols count entries entry_room notices notice_room : ℕ)
    → IsTrue (has_room limit symbols count entries entry_room notices notice_room) → count < limit
below_limit limit symbols count entries entry_room notices notice_room h =
    grind (arith, nat_tests, h)

pub has_entry_room : (limit symbols count entries entry_room notices notice_room : ℕ)
    → IsTrue (has_room limit symbols count entries entry_room notices notice_room)
    → entries < entry_room
has_entry_room limit symbols count entries entry_room notices notice_room h =
    grind (arith, nat_tests, h)

pub has_notice_room : (limit symbols count entries entry_room notices notice_room : ℕ)
    → IsTrue (has_room limit symbols count entries entry_room notices notice_room)
    → notices + symbols ≤ notice_room
has_notice_room limit symbols count entries entry_room notices notice_room h =
    grind (arith, nat_tests, h)

-- one more is kept, or none still
kept_more : (kept : Option ℕ) (es : List Entry) (e : Entry)
    → kept_of kept (kept_of kept es ++ e ∷ []) ≡ kept_of kept (es ++ e ∷ [])
kept_more None es e = refl
kept_more (Some most) es e = refl

module _ (before after : NumberedState) (e : Entry) (goes_on : GoesOnBy before e after) where
  -- the changes of the last entry come after those of the others
  all_more : changes_of before.symbols before.entries ++ latest_of after.symbols after.entries
      ≡ changes_of after.symbols after.entries
  all_more = rw goes_on (latest-after before.symbols before.entries e)

  module _ (counted : List Entry) (kept : Option ℕ) (entries : List Entry) (entry_room first : ℕ)
      (notices : List Notice) (notice_room : ℕ)
      (cursors : List Cursor) (keeps : Keeps before counted kept entries entry_room first notices
      notice_room cursors) where
    pub still_keeps : length before.entries < before.journal
        → length (changes_of after.symbols after.entries) < 2 ^ 44
        → Keeps after (counted ++ e ∷ []) kept (kept_of kept (entries ++ e ∷ [])) entry_room first
        (notices ++ latest_of after.symbols after.entries) notice_room cursors
    still_keeps below small =
        let more = latest_of after.symbols after.entries in
        let long : length (changes_of before.symbols before.entries) ≤ length
        (changes_of after.symbols after.entries) =
        rw (← all_more)
        (omega (arith, length-append (changes_of before.symbols before.entries) more)) in
        record {
          same = ap (λ (es : List Entry). kept_of kept (es ++ e ∷ [])) keeps.same
              ∙ kept_more kept before.entries e
              ∙ sym (ap (λ (b : NumberedState). kept_of kept b.entries) goes_on);
          counts = ap (λ (es : List Entry). es ++ e ∷ []) keeps.counts
              ∙ sym (ap (λ (b : NumberedState). b.entries) goes_on);
          room = rw goes_on keeps.room;
          run = ap (λ (l : List Notice). l ++ more) keeps.run
              ∙ sym (drop-append-le first (changes_of before.symbols before.entries) more
              keeps.begun)
              ∙ ap (drop first) all_more;
          within = rw goes_on (omega (arith, length-append before.entries (e ∷ []), below));
          limited = rw goes_on keeps.limited;
          begun = omega (arith, keeps.begun, long);
          small = small;
          few = keeps.few;
          seen = still_within cursors first _ _ long keeps.seen;
        }

    -- nothing was offered
    pub still_offered : map (subscription_of (changes_of after.symbols after.entries)) cursors
        ≡ map (subscription_of (changes_of before.symbols before.entries)) cursors
    still_offered =
        ap (λ (l : List Notice). map (subscription_of l) cursors) (sym all_more)
        ∙ same_offered cursors first (changes_of before.symbols before.entries)
        (latest_of after.symbols after.entries) keeps.seen
