-- Laws of how cursors move, for crates above; they are proved here, and nobody has to read them.
use Rattle.std.proofs.Common.{◌≡◌, ℕ, zero, suc, ◌+◌, List, [], ◌∷◌, Option, Some, length, ap, subst, sym, refl, ◌∙◌}
use Rattle.std.specs.Prelude.{MatchOption, slice_get, slice_set}
use Rattle.journal_book.specs.declared.cursor.Cursor.{Cursor}
use Rattle.journal_book.specs.Journals.{JournalState}
use Rattle.journal_book.specs.Cursors.{GoesToNext, AdvancesCursor}
use Rattle.journal_book.specs.Consolidators.{StaysButCursors}
use Rattle.feed_types.specs.declared.journal.Notice.{Notice}

-- what is read where something was put, and a second one put there
pub get_set : {X : Type 0} (xs : List X) (i : ℕ) (x y : X) → slice_get xs i ≡ Some y
    → slice_get (slice_set xs i x) i ≡ Some x
get_set [] i x y e = absurd cc
get_set (z ∷ xs) zero x y e = refl
get_set (z ∷ xs) (suc i) x y e = get_set xs i x y e

set_set : {X : Type 0} (xs : List X) (i : ℕ) (x y : X)
    → slice_set (slice_set xs i x) i y ≡ slice_set xs i y
set_set [] i x y = refl
set_set (z ∷ xs) zero x y = refl
set_set (z ∷ xs) (suc i) x y = ap (λ (l : List _). z ∷ l) (set_set xs i x y)

length_set : {X : Type 0} (xs : List X) (i : ℕ) (x : X) → length (slice_set xs i x) ≡ length xs
length_set [] i x = refl
length_set (y ∷ ys) zero x = refl
length_set (y ∷ ys) (suc i) x = ap suc (length_set ys i x)

-- only a cursor moved
moved_stays : (old new : JournalState) (cursors : List Cursor)
    → new ≡ record old { cursors = cursors } → StaysButCursors old new
moved_stays old new cursors is =
    is ∙ ap (λ (s : JournalState). record old { cursors = s.cursors }) (sym is)

pub goes_stays : (old new : JournalState) (id : ℕ) (found : Option Notice)
    → GoesToNext old id found new → StaysButCursors old new
goes_stays old new id found goes =
    moved_stays old new (slice_set old.cursors id (record goes.cursor { seen = goes.place }))
    goes.moved

pub goes_many : (old new : JournalState) (id : ℕ) (found : Option Notice)
    → GoesToNext old id found new → length new.cursors ≡ length old.cursors
goes_many old new id found goes =
    ap (λ (s : JournalState). length s.cursors) goes.moved
    ∙ length_set old.cursors id (record goes.cursor { seen = goes.place })

-- the cursor that went to the next wanted change, and then past it
pub goes_past : (old between new : JournalState) (id : ℕ) (found : Option Notice)
    (goes : GoesToNext old id found between) → AdvancesCursor between id new
    → new ≡ record old {
      cursors =
          slice_set old.cursors id (record goes.cursor { seen = goes.place + 1 });
    }
goes_past old between new id found goes advances =
    let there : Cursor = record goes.cursor { seen = goes.place } in
    let past : Cursor = record goes.cursor { seen = goes.place + 1 } in
    let at : slice_get between.cursors id ≡ Some there =
    ap (λ (s : JournalState). slice_get s.cursors id) goes.moved
    ∙ get_set old.cursors id there goes.cursor goes.at in
    let is : new ≡ record between { cursors = slice_set between.cursors id past } =
    subst (λ (o : Option Cursor). MatchOption o ⊥
    (λ c. new ≡ record between {
      cursors =
          slice_set between.cursors id (record c { seen = c.seen + 1 });
    })) at advances in
    is ∙ ap (λ (s : JournalState). record s { cursors = slice_set s.cursors id past }) goes.moved
    ∙ ap (λ (l : List Cursor). record old { cursors = l }) (set_set old.cursors id there past)

module _ (old between new : JournalState) (id : ℕ) (found : Option Notice)
    (goes : GoesToNext old id found between) (past : AdvancesCursor between id new) where
  pub past_stays : StaysButCursors old new
  past_stays =
      moved_stays old new (slice_set old.cursors id (record goes.cursor { seen = goes.place + 1 }))
      (goes_past old between new id found goes past)

  pub past_many : length new.cursors ≡ length old.cursors
  past_many =
      ap (λ (s : JournalState). length s.cursors) (goes_past old between new id found goes past)
      ∙ length_set old.cursors id (record goes.cursor { seen = goes.place + 1 })
