-- What moving a subscriber's cursor does to what was offered.
use Rattle.std.proofs.Common.{ℕ, ◌≡◌, ◌+◌, ◌-◌, ◌<◌, ◌≤◌, Bool, true, false, List, ◌++◌, ap, ◌∙◌, sym, subst, length, drop, take, filter, None, Some, Option, arith, length-drop, inl, inr}
use Rattle.std.proofs.Math.Nat.{min-le_left, min-eq_left, min-eq_right}
use Rattle.std.proofs.lemmas.List.{length-take-le, take_all}
use Rattle.std.specs.Prelude.{is_some, not, slice_get, slice_set, IfSome, MatchOption, min, ◌⊎◌}
use Rattle.std.specs.Option.{option_map}
use Rattle.feed_types.specs.declared.journal.Notice.{Notice}
use Rattle.filter_terms.specs.declared.terms.Terms.{Terms}
use Rattle.filter_terms.specs.Terms.{meets}
use Rattle.journal_book.specs.declared.cursor.Cursor.{Cursor}
use Rattle.journal_book.specs.Journals.{JournalState, changes, terms_at}
use Rattle.journal_book.specs.Places.{IsNextPlace}
use Rattle.journal_book.proofs.NextPlaces.{get_cut, get_past, next_of_cut, next_past, none_of_cut, wanted_past}
use Rattle.journal_book.specs.PlaceLaws.{is_wanted, some_there}
use Rattle.journal_book.specs.Keeping.{IsRest}
use Rattle.journal_book.specs.Cursors.{HasUnseen, MovesOn, GoesToNext, PassesUnwanted, StandsAtWanted}
use Rattle.journal_book.specs.CursorLaws.{get_set}

some_is : {X : Type 0} (x y : X) → Some x ≡ Some y → x ≡ y
some_is x y e = cc

-- ---- one subscriber's cursor

module _ (old : JournalState) (id from place : ℕ) (terms : Terms) (kept : List Notice)
    (of : terms_at old id ≡ Some terms)
    (rest : IsRest old id kept from) (next : IsNextPlace (meets terms) kept from place)
    (forth : from ≤ place) where
  terms_is : rest.cursor.terms ≡ terms
  terms_is = some_is rest.cursor.terms terms
      (sym (ap (option_map (λ (c : Cursor). c.terms)) rest.at) ∙ of)

  there_is : IsNextPlace (meets rest.cursor.terms) (changes old)
      rest.cursor.seen (rest.gone + place)
  there_is =
      let here : IsNextPlace (meets terms) (drop rest.gone (changes old)) from place =
      subst (λ (l : List Notice). IsNextPlace (meets terms) l from place) rest.is next in
      subst (λ (n : ℕ). IsNextPlace (meets rest.cursor.terms) (changes old) n (rest.gone + place))
      (sym rest.seen)
      (next_past (meets rest.cursor.terms) (changes old) rest.gone from place rest.begun
      (subst (λ (t : Terms). IsNextPlace (meets t) (drop rest.gone (changes old)) from place)
      (sym terms_is) here))

  moved_to : rest.cursor.seen + (place - from) ≡ rest.gone + place
  moved_to = omega (arith, rest.seen, forth)

  -- the search doesn't go past the end
  pub goes_within : HasUnseen old id (place - from)
  goes_within =
      let within : rest.cursor.seen + (place - from) ≤ length (changes old) =
      omega (arith, there_is.within, moved_to) in
      subst (λ (o : Option Cursor). MatchOption o ⊥ (λ c. c.seen + (place - from) ≤ length
      (changes old))) (sym rest.at) within

  -- where the search ended, and what stands there
  pub goes_on : (new : JournalState) (found : Option Notice) → MovesOn old id (place - from) new
      → found ≡ slice_get kept place
      → GoesToNext old id found new
  goes_on new found moves there = record {
    cursor = rest.cursor;
    at = rest.at;
    place = rest.gone + place;
    next = there_is;
    found_is = there ∙ ap (λ (l : List Notice). slice_get l place) rest.is
        ∙ get_past rest.gone place (changes old) rest.begun;
    moved = subst (λ (n : ℕ). new ≡ record old {
      cursors = slice_set old.cursors id
          (record rest.cursor { seen = n });
    }) moved_to
        (subst (λ (o : Option Cursor). MatchOption o ⊥
        (λ c. new ≡ record old {
          cursors = slice_set old.cursors id
              (record c { seen = c.seen + (place - from) });
        })) rest.at moves);
  }

-- The search looks at the first changes alone, up to `most` of those that weren't looked at.
module _ (old : JournalState) (id from place most unseen end : ℕ) (terms : Terms)
    (kept : List Notice) (of : terms_at old id ≡ Some terms)
    (rest : IsRest old id kept from) (whole : from + unseen ≡ length kept)
    (end_is : end ≡ from + min unseen most)
    (next : IsNextPlace (meets terms) (take end kept) from place) (forth : from ≤ place) where
  end_within : end ≤ length kept
  end_within = let least = min-le_left unseen most in omega (arith, end_is, whole, least)

  goes_where : (new : JournalState) (found : Option Notice) → MovesOn old id (place - from) new
      → found ≡ slice_get (take end kept) place
      → (place < end) ⊎ (end ≡ length kept) → GoesToNext old id found new
  goes_where new found moves there where_is =
      let all = next_of_cut (meets terms) kept end from place end_within
      (omega (arith, end_is)) next where_is in
      goes_on old id from place terms kept of rest all forth new found moves (there ∙ same where_is)
    where
      same : (place < end) ⊎ (end ≡ length kept)
          → slice_get (take end kept) place ≡ slice_get kept place
      same (inl below) = get_cut kept end place below
      same (inr all) = ap (λ (l : List Notice). slice_get l place)
          (take_all end kept (omega (arith, all)))

  -- one of them was found, or they are all that there are
  pub seek_goes : (new : JournalState) (found : Option Notice) (none : Bool)
      → MovesOn old id (place - from) new
      → found ≡ slice_get (take end kept) place → is_some found ≡ not none
      → ((none ≡ true) × (unseen ≤ most)) ⊎ (none ≡ false)
      → GoesToNext old id found new
  seek_goes new found none moves there is (inl all) =
      let least = min-eq_left all.1 in
      goes_where new found moves there (inr (omega (arith, end_is, whole, least)))
  seek_goes new None none moves there is (inr some) = absurd (let h = is in cc)
  seek_goes new (Some notice) none moves there is (inr some) =
      let below = some_there (take end kept) place notice (sym there) in
      let cut = length-take-le end kept end_within in
      goes_where new (Some notice) moves there (inl (omega (arith, below, cut)))

  -- none of them was, and there are more
  pub seek_none : (new : JournalState) → MovesOn old id (place - from) new
      → None ≡ slice_get (take end kept) place → most < unseen
      → PassesUnwanted old id most new
  seek_none new moves there more =
      let changed = changes old in
      let cut_is : end ≡ from + most = omega (arith, end_is, min-eq_right more) in
      let last = none_of_cut (meets terms) kept end from place end_within
      (omega (arith, end_is)) next (sym there) in
      let step : place - from ≡ most = omega (arith, last.0, cut_is) in
      let size = ap length rest.is in
      let wants : Notice → Bool = meets rest.cursor.terms in
      let unwanted : filter wants (take end (drop rest.gone changed)) ≡ filter wants
      (take from (drop rest.gone changed)) =
      subst (λ (x : Terms × List Notice). filter (meets x.0) (take end x.1) ≡ filter
      (meets x.0) (take from x.1))
      (λ i. (sym terms_same i, rest.is i)) last.1 in
      record {
        cursor = rest.cursor;
        at = rest.at;
        more = omega (
          arith,
          rest.seen,
          whole,
          size,
          length-drop rest.gone changed,
          rest.begun,
          more,
        );
        unwanted = ap (λ (n : ℕ). filter wants (take n changed)) (omega (arith, rest.seen, cut_is))
            ∙ wanted_past wants changed rest.gone end
            ∙ ap (λ (l : List Notice). filter wants (take rest.gone changed) ++ l) unwanted
            ∙ sym (wanted_past wants changed rest.gone from)
            ∙ ap (λ (n : ℕ). filter wants (take n changed)) (sym rest.seen);
        moved = subst (λ (n : ℕ). new ≡ record old {
          cursors = slice_set old.cursors id
              (record rest.cursor { seen = rest.cursor.seen + n });
        }) step
            (subst (λ (o : Option Cursor). MatchOption o ⊥
            (λ c. new ≡ record old {
              cursors = slice_set old.cursors id
                  (record c { seen = c.seen + (place - from) });
            })) rest.at moves);
      }
    where
      terms_same : rest.cursor.terms ≡ terms
      terms_same = some_is rest.cursor.terms terms
          (sym (ap (option_map (λ (c : Cursor). c.terms)) rest.at) ∙ of)

-- a cursor that found a change stands at one that is wanted
pub stands_there : (old new : JournalState) (id : ℕ) (found : Option Notice)
    → GoesToNext old id found new → IfSome found (λ _. StandsAtWanted new id)
stands_there old new id found goes = by found goes.found_is
  where
    by : (o : Option Notice) → o ≡ slice_get (changes old) goes.place
        → IfSome o (λ _. StandsAtWanted new id)
    by None e = tt
    by (Some n) e = record {
      cursor = record goes.cursor { seen = goes.place };
      at = ap (λ (s : JournalState). slice_get s.cursors id) goes.moved
          ∙ get_set old.cursors id (record goes.cursor { seen = goes.place }) goes.cursor goes.at;
      notice = n;
      here = ap (λ (s : JournalState). slice_get (changes s) goes.place) goes.moved ∙ sym e;
      wanted = is_wanted (meets goes.cursor.terms) (changes old) goes.cursor.seen
          goes.place goes.next n (sym e);
    }

-- it stands before the end
pub stands_within : (state : JournalState) (id : ℕ) → StandsAtWanted state id → HasUnseen state id 1
stands_within state id stands =
    let below : stands.cursor.seen < length (changes state) = some_there (changes state)
    stands.cursor.seen stands.notice stands.here in
    subst (λ (o : Option Cursor). MatchOption o ⊥ (λ c. c.seen + 1 ≤ length (changes state)))
    (sym stands.at) (omega arith)
