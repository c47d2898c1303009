-- The rows of a book, after one more entry.
use Rattle.std.proofs.Common.{ℕ, zero, suc, ◌<◌, ◌≡◌, ◌+◌, List, [], ◌∷◌, ◌++◌, Bool, true, false, not, refl, ap, sym, ◌∙◌, arith, length, map, nat_eq, cond, Option, Some, None, set, get_or}
use Rattle.std.specs.Prelude.{◌&&◌, position, slice_index_or}
use Rattle.std.specs.List.{AllByRecursion, IsDistinct, filter_map, cons_option}
use Rattle.std.specs.Option.{option_to_list}
use Rattle.std.specs.Str.{bytes_eq}
use Rattle.std.specs.Cmp.Lexicographic.{bytes_decides}
use Rattle.std.proofs.lemmas.List.Quantifiers.{position-Some}
use Rattle.feed_types.specs.declared.journal.Entry.{Entry}
use Rattle.feed_types.specs.declared.journal.Entry.TheVariants.{Consumed, SelfHelp}
use Rattle.feed_types.specs.declared.item.Item.{Item}
use Rattle.feed_types.specs.declared.item.Item.TheVariants as item
use Rattle.feed_types.specs.declared.item.Numbered.{Numbered}
use Rattle.feed_types.specs.declared.line.Side.{Side}
use Rattle.feed_types.specs.declared.line.Side.TheVariants.{Bid, Offer}
use Rattle.feed_types.specs.declared.national.National.{National}
use Rattle.nbbo_book.specs.declared.venue_side.VenueSide.{VenueSide}
use Rattle.nbbo_book.specs.Rows.{side_at}
use Rattle.nbbo_book.specs.declared.row.Row.{Row}
use Rattle.nbbo_book.specs.declared.change.Change.{Change}
use Rattle.nbbo_book.specs.Sides.{quoted_by, side_of, age_of}
use Rattle.nbbo_book.specs.Eligible.{ranked_by, may_rank, is_self_helped, eligible_of}
use Rattle.nbbo_book.specs.Nationals.{national_of, best_of}
use Rattle.nbbo_book.specs.Changes.{is_same_best, is_same_national, change_of, changes_by}
use Rattle.nbbo_book.specs.Contents.{SideFits, RowFits}
use Rattle.nbbo_book.specs.Books.{venue_of}
use Rattle.nbbo_book.specs.Ranks.{best_of_ranks, IsRankingOf}
use Rattle.nbbo_book.specs.Rows.{may_at, row_quoted, row_rechecked, row_halted, row_ended, row_after, row_after_item, row_change, told_where, national_at, helped_after, symbol_in, symbol_in_item, IsRowRanked}
use Rattle.nbbo_book.specs.Tables.{IsSide, IsRow, symbols_in_rows}
use Rattle.nbbo_book.specs.VenueSides.{BookSide, venue_side_at, age_at}
use Rattle.nbbo_book.specs.BookSides.{rank_at}
use Rattle.nbbo_book.proofs.Ranking.{ranking_same}
use Rattle.nbbo_book.proofs.SideInvariant.{long_set, set_off, apart_from, ranked_own, ranked_nothing, side_is_ranked, side_waits, side_rechecked-is, side_quoted-is}
use Rattle.nbbo_book.proofs.EntryEffects.{same_side_sound}
use Rattle.nbbo_book.proofs.Firsts.{front_is_best}
use Rattle.nbbo_book.proofs.Fitting.{row_fits, helped_fits}
use Rattle.nbbo_book.proofs.Fronts.{same_best_refl}
use Rattle.nbbo_book.proofs.Keys.{apart_at, missed_all, place_is}

row_waits : (helped : List Bool) (n : ℕ) (r : Row) → IsRow helped n r → IsRow helped (n + 1) r
row_waits helped n r h = record {
  bids = side_waits Bid (may_at helped r.halted) (may_at helped r.halted) n (n + 1)
      (side_at Bid r) (omega arith)
      (λ w l. refl) h.bids;
  offers = side_waits Offer (may_at helped r.halted) (may_at helped r.halted) n
      (n + 1) (side_at Offer r)
      (omega arith) (λ w l. refl) h.offers;
  count = h.count;
}

-- one venue's halt, or its self-help, differs
row_rechecked-is : (helped flags : List Bool) (n v : ℕ) (halted : List Bool) (r : Row)
    → v < 16 → length halted ≡ 16
    → ((w : ℕ) → nat_eq w v ≡ false → may_at flags halted w ≡ may_at helped r.halted w)
    → IsRow helped n r
    → IsRow flags (n + 1) (row_rechecked flags v halted r)
row_rechecked-is helped flags n v halted r below long others h = record {
  bids = side_rechecked-is Bid (may_at helped r.halted) (may_at flags halted) n
      (n + 1) (side_at Bid r) v
      (may_at flags halted v) below (omega arith) others refl h.bids;
  offers = side_rechecked-is Offer (may_at helped r.halted) (may_at flags halted) n
      (n + 1) (side_at Offer r) v
      (may_at flags halted v) below (omega arith) others refl h.offers;
  count = long;
}

-- an end of session or a skip takes what the venue quotes and its halts
row_ended-is : (helped : List Bool) (n v : ℕ) (r : Row) → v < 16 → IsRow helped n r
    → IsRow helped (n + 1) (row_ended v n r)
row_ended-is helped n v r below h =
    let may = may_at helped r.halted in
    let more = may_at helped (set r.halted v false) in
    let others : (w : ℕ) → nat_eq w v ≡ false
    → more w ≡ may w = λ w e. ap (λ t. not (slice_index_or helped w false) && not t)
    (set_off r.halted v w false false (apart_from v w e)) in
    record {
      bids = side_quoted-is Bid may more n (side_at Bid r) v None false below others
          (ranked_nothing (more v) v)
          (ranked_nothing (may v) v ∙ sym (ranked_nothing (more v) v))
          (same_side_sound (venue_side_at r.bids.venue_sides v).quote None) h.bids;
      offers = side_quoted-is Offer may more n (side_at Offer r) v None false below others
          (ranked_nothing (more v) v) (ranked_nothing (may v) v ∙ sym (ranked_nothing (more v) v))
          (same_side_sound (venue_side_at r.offers.venue_sides v).quote None) h.offers;
      count = long_set r.halted v false ∙ h.count;
    }

item_is : (helped : List Bool) (n v : ℕ) (i : Item) (r : Row) → v < 16 → IsRow helped n r
    → IsRow helped (n + 1) (row_after_item helped n v i r)
item_is helped n v (item.Quote q) r below h =
    let may = may_at helped r.halted in
    let R : Bool → Type 0 = λ t. IsRow helped (n + 1) (cond t (row_quoted helped v q n r) r) in
    elim (bytes_eq q.symbol r.symbol) as R [
      | true ↦ record {
        bids = side_quoted-is Bid may may n (side_at Bid r) v (Some (quoted_by q Bid))
            (may v) below (λ w e. refl)
            refl refl (same_side_sound (venue_side_at r.bids.venue_sides v).quote
            (Some (quoted_by q Bid))) h.bids;
        offers = side_quoted-is Offer may may n (side_at Offer r) v
            (Some (quoted_by q Offer)) (may v) below
            (λ w e. refl) refl refl (same_side_sound (venue_side_at r.offers.venue_sides v).quote
            (Some (quoted_by q Offer))) h.offers;
        count = h.count;
      }
      | false ↦ row_waits helped n r h
    ]
item_is helped n v (item.Halt s x) r below h =
    let R : Bool → Type 0 = λ t. IsRow helped (n + 1) (cond t (row_halted helped v x r) r) in
    elim (bytes_eq s r.symbol) as R [
      | true ↦ row_rechecked-is helped helped n v (set r.halted v x) r below
          (long_set r.halted v x ∙ h.count)
          (λ w e. ap (λ t. not (slice_index_or helped w false) && not t)
          (set_off r.halted v w x false (apart_from v w e))) h
      | false ↦ row_waits helped n r h
    ]
item_is helped n v item.Other r below h = row_waits helped n r h
item_is helped n v item.End r below h = row_ended-is helped n v r below h
item_is helped n v item.Skipped r below h = row_ended-is helped n v r below h

-- what every book keeps of a symbol, after one more entry
pub row_is : (helped : List Bool) (n : ℕ) (e : Entry) (r : Row) → venue_of e < 16 → IsRow helped n r
    → IsRow (helped_after e helped) (n + 1) (row_after (helped_after e helped) n e r)
row_is helped n (Consumed v x) r below h = item_is helped n v x.item r below h
row_is helped n (SelfHelp v on) r below h =
    row_rechecked-is helped (set helped v on) n v r.halted r below h.count
    (λ w e. ap (λ t. not t && not (slice_index_or r.halted w false))
    (set_off helped v w on false (apart_from v w e))) h

row_is_ranked : (helped : List Bool) (n : ℕ) (r : Row) → IsRow helped n r → IsRowRanked n r
row_is_ranked helped n r h = record {
  bids = side_is_ranked Bid (may_at helped r.halted) n (side_at Bid r) h.bids;
  offers = side_is_ranked Offer (may_at helped r.halted) n (side_at Offer r) h.offers;
  past_bids = h.bids.past;
  past_offers = h.offers.past;
}

pub rows_are_ranked : (helped : List Bool) (n : ℕ) (rs : List Row)
    → AllByRecursion (IsRow helped n) rs
    → AllByRecursion (IsRowRanked n) rs
rows_are_ranked helped n [] h = tt
rows_are_ranked helped n (r ∷ rs) h = (
  row_is_ranked helped n r h.0,
  rows_are_ranked helped n rs h.1,
)

item_keeps_symbol : (helped : List Bool) (n v : ℕ) (i : Item) (r : Row)
    → (row_after_item helped n v i r).symbol ≡ r.symbol
item_keeps_symbol helped n v (item.Quote q) r =
    elim (bytes_eq q.symbol r.symbol) as
    (λ t. (cond t (row_quoted helped v q n r) r).symbol ≡ r.symbol)
    [ true ↦ refl | false ↦ refl ]
item_keeps_symbol helped n v (item.Halt s x) r =
    elim (bytes_eq s r.symbol) as (λ t. (cond t (row_halted helped v x r) r).symbol ≡ r.symbol)
    [ true ↦ refl | false ↦ refl ]
item_keeps_symbol helped n v item.Other r = refl
item_keeps_symbol helped n v item.End r = refl
item_keeps_symbol helped n v item.Skipped r = refl

row_keeps_symbol : (helped : List Bool) (n : ℕ) (e : Entry) (r : Row)
    → (row_after helped n e r).symbol ≡ r.symbol
row_keeps_symbol helped n (Consumed v x) r = item_keeps_symbol helped n v x.item r
row_keeps_symbol helped n (SelfHelp v on) r = refl

pub rows_keep_symbols : (helped : List Bool) (n : ℕ) (e : Entry) (rs : List Row)
    → symbols_in_rows (map (row_after helped n e) rs) ≡ symbols_in_rows rs
rows_keep_symbols helped n e [] = refl
rows_keep_symbols helped n e (r ∷ rs) =
    ap (λ s. s ∷ symbols_in_rows (map (row_after helped n e) rs)) (row_keeps_symbol helped n e r)
    ∙ ap (λ ss. r.symbol ∷ ss) (rows_keep_symbols helped n e rs)

-- a side's ranks are those of the entries
pub side_ranking : (es : List Entry) (s : List ℕ) (b : Side) (may : ℕ → Bool) (n : ℕ) (k : BookSide)
    → ((w : ℕ) → w < 16 → may w ≡ may_rank es w s) → SideFits es s b k.venue_sides
    → IsSide b may n k
    → IsRankingOf b (eligible_of es s b) (λ w. age_of es w s b) k.ranks
side_ranking es s b may n k leave fits h =
    ranking_same b (rank_at may k.venue_sides) (eligible_of es s b)
    (age_at k.venue_sides) (λ w. age_of es w s b)
    k.ranks
    (λ w l. ap (λ t. ranked_by t w (venue_side_at k.venue_sides w).quote) (leave w l)
    ∙ ap (λ (t : VenueSide). ranked_by (may_rank es w s) w t.quote) (fits w l))
    (λ w l. ap (λ (t : VenueSide). t.age) (fits w l))
    h.ranked

-- and the first of them is the best of the entries
best_is : (es : List Entry) (s : List ℕ) (b : Side) (may : ℕ → Bool) (n : ℕ) (k : BookSide)
    → ((w : ℕ) → w < 16 → may w ≡ may_rank es w s) → SideFits es s b k.venue_sides
    → IsSide b may n k
    → best_of_ranks k.ranks ≡ best_of es s b
best_is es s b may n k leave fits h =
    front_is_best b (λ w. age_of es w s b) (eligible_of es s b) k.ranks
    (λ w x e. ranked_own (may_rank es w s) w (side_of es w s b) x e)
    (side_ranking es s b may n k leave fits h)

pub may_is : (es : List Entry) (helped : List Bool) (r : Row)
    → ((w : ℕ) → w < 16 → slice_index_or helped w false ≡ is_self_helped es w)
    → RowFits es r → (w : ℕ) → w < 16
    → may_at helped r.halted w ≡ may_rank es w r.symbol
may_is es helped r flags fits w l = ap (λ t. not t && not (slice_index_or r.halted w false))
    (flags w l)
    ∙ ap (λ t. not (is_self_helped es w) && not t) (fits.halted w l)

pub national_is : (es : List Entry) (helped : List Bool) (n : ℕ) (r : Row)
    → ((w : ℕ) → w < 16 → slice_index_or helped w false ≡ is_self_helped es w)
    → IsRow helped n r → RowFits es r
    → national_at r ≡ national_of es r.symbol
national_is es helped n r flags h fits =
    ap (λ t. record { bid = t; offer = best_of_ranks r.offers.ranks })
    (best_is es r.symbol Bid (may_at helped r.halted) n (side_at Bid r)
    (may_is es helped r flags fits) fits.bids
    h.bids)
    ∙ ap (λ t. record { bid = best_of es r.symbol Bid; offer = t })
    (best_is es r.symbol Offer (may_at helped r.halted) n (side_at Offer r)
    (may_is es helped r flags fits)
    fits.offers h.offers)

-- the rows, after one more entry
pub rows_are : (helped : List Bool) (n : ℕ) (e : Entry) (rs : List Row) → venue_of e < 16
    → AllByRecursion (IsRow helped n) rs
    → AllByRecursion (IsRow (helped_after e helped) (n + 1))
    (map (row_after (helped_after e helped) n e) rs)
rows_are helped n e [] below h = tt
rows_are helped n e (r ∷ rs) below h = (
  row_is helped n e r below h.0,
  rows_are helped n e rs below h.1,
)

pub rows_fit : (es : List Entry) (e : Entry) (helped flags : List Bool) (n m : ℕ) (rs : List Row)
    → venue_of e < 16
    → n ≡ suc (length es) → AllByRecursion (IsRow flags m) rs → AllByRecursion (RowFits es) rs
    → AllByRecursion (RowFits (es ++ e ∷ [])) (map (row_after helped n e) rs)
rows_fit es e helped flags n m [] below young h fits = tt
rows_fit es e helped flags n m (r ∷ rs) below young h fits = (
  row_fits es e n m helped flags r below young h.0 fits.0,
  rows_fit es e helped flags n m rs below young h.1 fits.1,
)

-- the changes, too, are those of the entries
pub changes_are : (es : List Entry) (e : Entry) (p : ℕ) (helped : List Bool) (n : ℕ) (rs : List Row)
    → venue_of e < 16 → length helped ≡ 16 → n ≡ suc (length es)
    → ((w : ℕ) → w < 16 → slice_index_or helped w false ≡ is_self_helped es w)
    → AllByRecursion (IsRow helped n) rs
    → AllByRecursion (RowFits es) rs
    → filter_map (row_change (helped_after e helped) n p e) rs ≡ changes_by
    (symbols_in_rows rs) es p e
changes_are es e p helped n [] below long young flags h fits = refl
changes_are es e p helped n (r ∷ rs) below long young flags h fits =
    let next = row_after (helped_after e helped) n e r in
    let rest : List Change = filter_map (row_change (helped_after e helped) n p e) rs in
    let new : national_at next ≡ national_of (es ++ e ∷ []) r.symbol =
    national_is (es ++ e ∷ []) (helped_after e helped) (n + 1) next
    (helped_fits es e helped long below flags)
    (row_is helped n e r below h.0) (row_fits es e n n (helped_after e helped) helped r
    below young h.0 fits.0)
    ∙ ap (national_of (es ++ e ∷ [])) (row_keeps_symbol (helped_after e helped) n e r) in
    ap (λ t. cons_option (change_of p r.symbol t (national_at next)) rest)
    (national_is es helped n r flags h.0 fits.0)
    ∙ ap (λ t. cons_option (change_of p r.symbol (national_of es r.symbol) t) rest) new
    ∙ ap (cons_option (change_of p r.symbol (national_of es r.symbol)
    (national_of (es ++ e ∷ []) r.symbol)))
    (changes_are es e p helped n rs below long young flags h.1 fits.1)

-- no change where nothing changed
pub same_national_refl : (x : National) → is_same_national x x ≡ true
same_national_refl x = ap (λ t. t && is_same_best x.offer x.offer) (same_best_refl x.bid)
    ∙ same_best_refl x.offer

unchanged : (p : ℕ) (s : List ℕ) (x : National) → change_of p s x x ≡ None
unchanged p s x = ap (λ t. cond t None (Some (record { position = p; symbol = s; national = x })))
    (same_national_refl x)

-- what is appended for a symbol is its change
pub told_is : (helped : List Bool) (n p : ℕ) (e : Entry) (r next : Row) (moved : Bool)
    → next ≡ row_after helped n e r
    → moved ≡ not (is_same_national (national_at r) (national_at next))
    → told_where moved p next ≡ row_change helped n p e r
told_is helped n p e r next moved is says =
    let after : Row = row_after helped n e r in
    let R : Bool → Type 0 = λ b. told_where (not b) p after ≡ cond b None
    (Some (record { position = p; symbol = r.symbol; national = national_at after })) in
    ap (λ (b : Bool). told_where b p next)
    (says ∙ ap (λ (t : Row). not (is_same_national (national_at r) (national_at t))) is)
    ∙ ap (λ (t : Row). told_where (not (is_same_national (national_at r) (national_at after))) p t)
    is
    ∙ (elim (is_same_national (national_at r) (national_at after)) as R [
      | true ↦ refl
      | false ↦ ap
          (λ (s : List ℕ). Some (record { position = p; symbol = s; national = national_at after }))
          (row_keeps_symbol helped n e r)
    ])

quiet : (helped : List Bool) (n p : ℕ) (e : Entry) (r : Row) → row_after helped n e r ≡ r
    → row_change helped n p e r ≡ None
quiet helped n p e r h = ap (λ (t : Row). change_of p r.symbol (national_at r) (national_at t)) h
    ∙ unchanged p r.symbol (national_at r)

one_same : {s t : List ℕ} → Some s ≡ Some t → s ≡ t
one_same e = cc

-- an entry that concerns one symbol leaves the others unchanged
other_item : (helped : List Bool) (n v : ℕ) (i : Item) (s : List ℕ) (r : Row)
    → symbol_in_item i ≡ Some s
    → bytes_eq s r.symbol ≡ false → row_after_item helped n v i r ≡ r
other_item helped n v (item.Quote q) s r c e =
    (let same : q.symbol ≡ s = one_same c
    in ap (λ t. cond (bytes_eq t r.symbol) (row_quoted helped v q n r) r) same
    ∙ ap (λ t. cond t (row_quoted helped v q n r) r) e)
other_item helped n v (item.Halt t x) s r c e =
    (let same : t ≡ s = one_same c
    in ap (λ u. cond (bytes_eq u r.symbol) (row_halted helped v x r) r) same
    ∙ ap (λ u. cond u (row_halted helped v x r) r) e)
other_item helped n v item.Other s r c e = refl
other_item helped n v item.End s r c e = cc
other_item helped n v item.Skipped s r c e = cc

other_row : (helped : List Bool) (n : ℕ) (e : Entry) (s : List ℕ) (r : Row) → symbol_in e ≡ Some s
    → bytes_eq s r.symbol ≡ false → row_after helped n e r ≡ r
other_row helped n (Consumed v x) s r c h = other_item helped n v x.item s r c h
other_row helped n (SelfHelp v on) s r c h = cc

-- where no row changes
still : (helped : List Bool) (n p : ℕ) (e : Entry) (rs : List Row)
    → AllByRecursion (λ r. row_after helped n e r ≡ r) rs
    → (map (row_after helped n e) rs ≡ rs) × (filter_map (row_change helped n p e) rs ≡ [])
still helped n p e [] h = (refl, refl)
still helped n p e (r ∷ rs) h =
    let k = still helped n p e rs h.1 in (
      ap (λ t. t ∷ map (row_after helped n e) rs) h.0 ∙ ap (λ t. r ∷ t) k.0,
      ap (λ o. cons_option o (filter_map (row_change helped n p e) rs)) (quiet helped n p e r h.0)
          ∙ k.1,
    )

-- an item that says nothing changes no symbol
no_rows : (helped : List Bool) (n v : ℕ) (x : Numbered) (rs : List Row) → x.item ≡ item.Other
    → AllByRecursion (λ r. row_after helped n (Consumed v x) r ≡ r) rs
no_rows helped n v x [] c = tt
no_rows helped n v x (r ∷ rs) c = (
  ap (λ t. row_after_item helped n v t r) c,
  no_rows helped n v x rs c,
)

pub nothing_steps : (helped : List Bool) (n p v : ℕ) (x : Numbered) (rs : List Row)
    → x.item ≡ item.Other
    → (map (row_after helped n (Consumed v x)) rs ≡ rs)
    × (filter_map (row_change helped n p (Consumed v x)) rs ≡ [])
nothing_steps helped n p v x rs c = still helped n p (Consumed v x) rs (no_rows helped n v x rs c)

missed_rows : (helped : List Bool) (n : ℕ) (e : Entry) (s : List ℕ) (rs : List Row)
    → symbol_in e ≡ Some s
    → AllByRecursion (λ t. bytes_eq s t ≡ false) (symbols_in_rows rs)
    → AllByRecursion (λ r. row_after helped n e r ≡ r) rs
missed_rows helped n e s [] c h = tt
missed_rows helped n e s (r ∷ rs) c h = (
  other_row helped n e s r c h.0,
  missed_rows helped n e s rs c h.1,
)

pub missed_steps : (helped : List Bool) (n p : ℕ) (e : Entry) (s : List ℕ) (rs : List Row)
    → symbol_in e ≡ Some s
    → position (bytes_eq s) (symbols_in_rows rs) ≡ None
    → (map (row_after helped n e) rs ≡ rs) × (filter_map (row_change helped n p e) rs ≡ [])
missed_steps helped n p e s rs c h =
    still helped n p e rs (missed_rows helped n e s rs c (missed_all s (symbols_in_rows rs) h))

pub option_list : {X : Type 0} (o : Option X) (xs : List X) → cons_option o xs ≡ option_to_list o
    ++ xs
option_list None xs = refl
option_list (Some x) xs = refl

rest_still : (helped : List Bool) (n : ℕ) (e : Entry) (rs : List Row) (d : Row)
    → ((j : ℕ) → j < length rs → row_after helped n e (get_or rs j d) ≡ get_or rs j d)
    → AllByRecursion (λ r. row_after helped n e r ≡ r) rs
rest_still helped n e [] d h = tt
rest_still helped n e (r ∷ rs) d h =
    (h zero (omega arith), rest_still helped n e rs d (λ j m. h (suc j) (omega (arith, m))))

pub alone : {X : Type 0} (xs : List X) → xs ++ [] ≡ xs
alone [] = refl
alone (x ∷ xs) = ap (λ t. x ∷ t) (alone xs)

-- where one row changes
one_moves : (helped : List Bool) (n p : ℕ) (e : Entry) (rs : List Row) (i : ℕ) (d : Row)
    → i < length rs
    → ((j : ℕ) → j < length rs → (i ≡ j → ⊥) → row_after helped n e (get_or rs j d) ≡ get_or rs j d)
    → (map (row_after helped n e) rs ≡ set rs i (row_after helped n e (get_or rs i d))) ×
    (filter_map (row_change helped n p e) rs ≡ option_to_list
    (row_change helped n p e (get_or rs i d)))
one_moves helped n p e [] i d l h = absurd (omega (arith, l))
one_moves helped n p e (r ∷ rs) zero d l h =
    let k = still helped n p e rs (rest_still helped n e rs d
    (λ j m. h (suc j) (omega (arith, m)) (λ q. (let no : 0 ≡ suc j = q in omega (arith, no))))) in (
      ap (λ t. row_after helped n e r ∷ t) k.0,
      ap (cons_option (row_change helped n p e r)) k.1 ∙ option_list (row_change helped n p e r) []
          ∙ alone (option_to_list (row_change helped n p e r)),
    )
one_moves helped n p e (r ∷ rs) (suc i) d l h =
    let k = one_moves helped n p e rs i d (omega (arith, l))
    (λ j m q. h (suc j) (omega (arith, m)) (λ u. q (omega (arith, u)))) in
    let here : row_after helped n e r ≡ r =
    h zero (omega arith) (λ q. (let no : suc i ≡ 0 = q in omega (arith, no))) in (
      ap (λ t. t ∷ map (row_after helped n e) rs) here ∙ ap (λ t. r ∷ t) k.0,
      ap (λ o. cons_option o (filter_map (row_change helped n p e) rs)) (quiet helped n p e r here)
          ∙ k.1,
    )

symbol_at : (rs : List Row) (i : ℕ) (d : Row)
    → get_or (symbols_in_rows rs) i d.symbol ≡ (get_or rs i d).symbol
symbol_at [] i d = refl
symbol_at (r ∷ rs) zero d = refl
symbol_at (r ∷ rs) (suc i) d = symbol_at rs i d

long_symbols : (rs : List Row) → length (symbols_in_rows rs) ≡ length rs
long_symbols [] = refl
long_symbols (r ∷ rs) = ap suc (long_symbols rs)

-- the row at the place that a symbol was found is the symbol's
pub found_symbol : (rs : List Row) (s : List ℕ) (i : ℕ) (d : Row)
    → position (bytes_eq s) (symbols_in_rows rs) ≡ Some i
    → (i < length rs) × ((get_or rs i d).symbol ≡ s)
found_symbol rs s i d e =
    let k = position-Some (bytes_eq s) (symbols_in_rows rs) i d.symbol e in (
      omega (arith, k.0, long_symbols rs),
      sym ((bytes_decides s (get_or (symbols_in_rows rs) i d.symbol)).0 k.1 ∙ symbol_at rs i d),
    )

-- a row's place is that of its symbol
pub place_found : (rs : List Row) (s : List ℕ) (i : ℕ) (d : Row)
    → IsDistinct bytes_eq (symbols_in_rows rs)
    → i < length rs → bytes_eq s (get_or rs i d).symbol ≡ true
    → position (bytes_eq s) (symbols_in_rows rs) ≡ Some i
place_found rs s i d distinct l e =
    place_is s (symbols_in_rows rs) i d.symbol distinct (omega (arith, l, long_symbols rs))
    (ap (bytes_eq s) (symbol_at rs i d) ∙ e)

pub found_steps : (helped : List Bool) (n p : ℕ) (e : Entry) (s : List ℕ)
    (rs : List Row) (i : ℕ) (d : Row)
    → symbol_in e ≡ Some s → IsDistinct bytes_eq (symbols_in_rows rs)
    → position (bytes_eq s) (symbols_in_rows rs) ≡ Some i
    → (map (row_after helped n e) rs ≡ set rs i (row_after helped n e (get_or rs i d))) ×
    (filter_map (row_change helped n p e) rs ≡ option_to_list
    (row_change helped n p e (get_or rs i d)))
found_steps helped n p e s rs i d c distinct at =
    let found = found_symbol rs s i d at in
    one_moves helped n p e rs i d found.0 (λ j l q. other_row helped n e s (get_or rs j d) c
    (ap (λ t. bytes_eq t (get_or rs j d).symbol) (sym found.1 ∙ sym (symbol_at rs i d))
    ∙ ap (bytes_eq (get_or (symbols_in_rows rs) i d.symbol)) (sym (symbol_at rs j d))
    ∙ apart_at (symbols_in_rows rs) i j d.symbol distinct (omega (arith, found.0, long_symbols rs))
    (omega (arith, l, long_symbols rs)) q))

pub all_rows_at : (P : Row → Type 0) (rs : List Row) (i : ℕ) (d : Row)
    → i < length rs → AllByRecursion P rs
    → P (get_or rs i d)
all_rows_at P [] i d l h = absurd (omega (arith, l))
all_rows_at P (r ∷ rs) zero d l h = h.0
all_rows_at P (r ∷ rs) (suc i) d l h = all_rows_at P rs i d (omega (arith, l)) h.1
