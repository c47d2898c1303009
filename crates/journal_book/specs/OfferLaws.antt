-- Laws of what was offered to a subscriber whose cursor moves, for crates above; they are proved
-- here,
-- and nobody has to read them.
use Rattle.std.proofs.Common.{ℕ, zero, suc, ◌≡◌, ◌+◌, List, [], ◌∷◌, ap, ◌∙◌, sym, refl, subst, length, map, None, Some, Option, length-append}
use Rattle.std.specs.Prelude.{slice_get, slice_set, IsSome, IfSome, MatchOption, option_and_then}
use Rattle.std.specs.Option.{option_map}
use Rattle.feed_types.specs.declared.journal.Notice.{Notice}
use Rattle.filter_terms.specs.Terms.{meets}
use Rattle.journal_book.specs.declared.cursor.Cursor.{Cursor}
use Rattle.journal_book.specs.Journals.{JournalState, Subscription, changes, subscription_of, subscriptions_of}
use Rattle.journal_book.specs.Consolidators.{next_for, next_at, CountsOffer}
use Rattle.journal_book.specs.Wanted.{wanted_of}
use Rattle.journal_book.specs.PlaceLaws.{next_of_wanted, one_more_wanted}
use Rattle.journal_book.specs.Cursors.{GoesToNext, StandsAtWanted, AdvancesCursor}
use Rattle.journal_book.specs.CursorLaws.{goes_past, goes_stays}

some_is : {X : Type 0} (x y : X) → Some x ≡ Some y → x ≡ y
some_is x y e = cc

pub get_map : {X Y : Type 0} (f : X → Y) (xs : List X) (i : ℕ)
    → slice_get (map f xs) i ≡ option_map f (slice_get xs i)
get_map f [] i = refl
get_map f (x ∷ xs) zero = refl
get_map f (x ∷ xs) (suc i) = get_map f xs i

map_set : {X Y : Type 0} (f : X → Y) (xs : List X) (i : ℕ) (x : X)
    → map f (slice_set xs i x) ≡ slice_set (map f xs) i (f x)
map_set f [] i x = refl
map_set f (y ∷ ys) zero x = refl
map_set f (y ∷ ys) (suc i) x = ap (λ l. f y ∷ l) (map_set f ys i x)

-- an item written over itself
pub set_same : {X : Type 0} (xs : List X) (i : ℕ) (x : X) → slice_get xs i ≡ Some x
    → slice_set xs i x ≡ xs
set_same [] i x e = refl
set_same (y ∷ ys) zero x e = let same : y ≡ x = some_is y x e in ap (λ z. z ∷ ys) (sym same)
set_same (y ∷ ys) (suc i) x e = ap (λ l. y ∷ l) (set_same ys i x e)

-- ---- what was offered

module _ (old between : JournalState) (id : ℕ) (found : Option Notice)
    (goes : GoesToNext old id found between) where
  abbrev there : Cursor
  there = record goes.cursor { seen = goes.place }

  abbrev of_cursor : Cursor → Subscription
  of_cursor = subscription_of (changes old)

  subscription_here : slice_get (subscriptions_of old) id ≡ Some (of_cursor goes.cursor)
  subscription_here = get_map of_cursor old.cursors id ∙ ap (option_map of_cursor) goes.at

  -- what it found is the next wanted change
  pub next_is : found ≡ next_at old id
  next_is =
      goes.found_is ∙ next_of_wanted (meets goes.cursor.terms) (changes old)
      goes.cursor.seen goes.place goes.next
      ∙ sym (ap (option_and_then (next_for old)) subscription_here)

  -- nothing was offered
  pub none_offered : subscriptions_of between ≡ subscriptions_of old
  none_offered =
      let same : of_cursor there ≡ of_cursor goes.cursor =
      ap (λ (xs : List Notice). record { terms = goes.cursor.terms; offered = length xs })
      goes.next.passed in
      ap subscriptions_of goes.moved ∙ map_set of_cursor old.cursors id there
      ∙ ap (slice_set (subscriptions_of old) id) same
      ∙ set_same (subscriptions_of old) id (of_cursor goes.cursor) subscription_here

  -- and what is next is so still
  pub next_stays : found ≡ next_at between id
  next_stays = next_is
      ∙ sym (λ i. option_and_then (λ (s : Subscription). slice_get
      (wanted_of (goes_stays old between id found goes i).symbols s.terms (goes_stays old between id
      found goes i).entries) s.offered) (slice_get (none_offered i) id))

  -- where there is a next one, the cursor stands at it
  pub stands_still : IfSome found (λ _. StandsAtWanted between id) → IsSome (next_at old id)
      → StandsAtWanted between id
  stands_still stands some = by found stands
      (subst (λ (o : Option Notice). IsSome o) (sym next_is) some)
    where
      by : (o : Option Notice) → IfSome o (λ _. StandsAtWanted between id) → IsSome o
          → StandsAtWanted between id
      by None h k = absurd cc
      by (Some n) h k = h

  module _ (new : JournalState) (past : AdvancesCursor between id new) where
    moved_past : new ≡ record old {
      cursors = slice_set old.cursors id
          (record goes.cursor { seen = goes.place + 1 });
    }
    moved_past = goes_past old between new id found goes past

    -- going past it offers it
    pub one_offered : IsSome (next_at old id)
        → CountsOffer (subscriptions_of old) id (subscriptions_of new)
    one_offered some = by found goes.found_is
        (subst (λ (o : Option Notice). IsSome o) (sym next_is) some)
      where
        by : (o : Option Notice) → o ≡ slice_get (changes old) goes.place → IsSome o
            → CountsOffer (subscriptions_of old) id (subscriptions_of new)
        by None e k = absurd cc
        by (Some n) e k =
            let wanted = filter_more n e in
            let here : of_cursor (record goes.cursor { seen = goes.place + 1 }) ≡ record (of_cursor
            goes.cursor) { offered = (of_cursor goes.cursor).offered + 1 }
            = ap (λ (k : ℕ). record { terms = goes.cursor.terms; offered = k }) wanted in
            let is : subscriptions_of new ≡ slice_set (subscriptions_of old) id
            (record (of_cursor goes.cursor) { offered = (of_cursor goes.cursor).offered + 1 }) =
            ap subscriptions_of moved_past
            ∙ map_set of_cursor old.cursors id (record goes.cursor { seen = goes.place + 1 })
            ∙ ap (slice_set (subscriptions_of old) id) here in
            subst (λ (o : Option Subscription). MatchOption o ⊥
            (λ s. subscriptions_of new ≡ slice_set (subscriptions_of old) id
            (record s { offered = s.offered + 1 }))) (sym subscription_here) is
          where
            filter_more : (n : Notice) → Some n ≡ slice_get (changes old) goes.place
                → (of_cursor (record goes.cursor { seen = goes.place + 1 })).offered ≡ (of_cursor
                goes.cursor).offered + 1
            filter_more n e =
                ap length (one_more_wanted (meets goes.cursor.terms) (changes old) goes.cursor.seen
                goes.place goes.next n (sym e))
                ∙ length-append _ (n ∷ [])
