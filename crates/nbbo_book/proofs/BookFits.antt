-- A book as a whole: new, and after one more entry.
use Rattle.std.proofs.Common.{ℕ, zero, suc, ◌<◌, ◌≤◌, ◌≡◌, ◌+◌, List, [], ◌∷◌, ◌++◌, Bool, true, false, refl, ap, sym, ◌∙◌, subst, arith, length, map, take, replicate, Some, None, get_or, length-append, Vec}
use Rattle.std.specs.Prelude.{position, is_some, slice_index_or}
use Rattle.std.specs.List.{AllByRecursion, filter_map}
use Rattle.std.specs.Str.{bytes_eq}
use Rattle.std.specs.Vec.{with_items}
use Rattle.std.proofs.lemmas.List.{with_items_is}
use Rattle.feed_types.specs.declared.journal.Entry.{Entry}
use Rattle.feed_types.specs.declared.journal.Entry.TheVariants.{Consumed, SelfHelp}
use Rattle.feed_types.specs.declared.line.Side.{Side}
use Rattle.feed_types.specs.declared.line.Side.TheVariants.{Bid, Offer}
use Rattle.nbbo_book.specs.declared.venue_side.VenueSide.{VenueSide}
use Rattle.nbbo_book.specs.declared.row.Row.{Row}
use Rattle.nbbo_book.specs.Eligible.{ranked_by, is_self_helped}
use Rattle.nbbo_book.specs.Nationals.{national_of, IsRanking}
use Rattle.nbbo_book.specs.Changes.{changes_by}
use Rattle.nbbo_book.specs.Contents.{BookContents, RowFits, ContentsFit}
use Rattle.nbbo_book.specs.Books.{BookState, FitsBook, venue_of}
use Rattle.nbbo_book.specs.Rows.{may_at, side_at, row_after, row_change, national_at, helped_after, empty_row, ShowsSymbol}
use Rattle.nbbo_book.specs.Tables.{IsSide, IsRow, HasRows, IsBook, IsTable, symbols_in_rows, book_state_of}
use Rattle.nbbo_book.specs.VenueSides.{venue_side_at}
use Rattle.nbbo_book.specs.BookSides.{empty_side}
use Rattle.nbbo_book.proofs.Eligibility.{ranking_is}
use Rattle.nbbo_book.proofs.SideInvariant.{ranked_nothing, long_set}
use Rattle.nbbo_book.proofs.Fitting.{helped_fits}
use Rattle.nbbo_book.proofs.Stepping.{rows_are, rows_fit, rows_keep_symbols, changes_are, national_is, side_ranking, may_is, found_symbol, all_rows_at}

-- the contents after one more entry
abbrev pub contents_after : Entry → BookContents → BookContents
contents_after e k = record {
  applied = k.applied + 1;
  helped = helped_after e k.helped;
  rows = map (row_after (helped_after e k.helped) (k.applied + 1) e) k.rows;
}

abbrev pub book_after : ℕ → Entry → BookState → BookState
book_after last e b =
    let k : BookContents = contents_after e b.contents
    in book_state_of k.rows b.venues last k.applied k.helped

helped_long : (e : Entry) (helped : List Bool) → length (helped_after e helped) ≡ length helped
helped_long (Consumed v x) helped = refl
helped_long (SelfHelp v on) helped = long_set helped v on

pub after_is : (keys : List ℕ) (b : BookState) (e : Entry) (last : ℕ)
    → venue_of e < b.venues → b.last < last
    → IsBook keys b → IsBook keys (book_after last e b)
after_is keys b e last below rising h =
    let k : BookContents = b.contents in
    record {
      symbols = refl;
      table = subst (λ (ss : List (List ℕ)). IsTable ss keys)
          (h.symbols ∙ sym (rows_keep_symbols (helped_after e k.helped) (k.applied + 1) e k.rows))
          h.table;
      venues = h.venues;
      applied = (let a = h.applied in omega (arith, a, rising));
      count = helped_long e k.helped ∙ h.count;
      rows = (let few = h.venues in rows_are k.helped (k.applied + 1) e k.rows
          (omega (arith, below, few)) h.rows);
    }

contents_fit : (k : BookContents) (e : Entry) (es : List Entry) → venue_of e < 16
    → length k.helped ≡ 16 → HasRows k
    → ContentsFit es k → ContentsFit (es ++ e ∷ []) (contents_after e k)
contents_fit k e es under count rows fits =
    let young : k.applied + 1 ≡ suc (length es) = (let a = fits.applied in omega (arith, a)) in
    record {
      applied = young ∙ (let l = length-append es (e ∷ []) in omega (arith, l));
      helped = helped_fits es e k.helped count under fits.helped;
      rows = rows_fit es e (helped_after e k.helped) k.helped (k.applied + 1) (k.applied + 1)
          k.rows under young rows
          fits.rows;
    }

pub after_fits : (keys : List ℕ) (b : BookState) (e : Entry) (last : ℕ) (es : List Entry)
    → venue_of e < b.venues
    → IsBook keys b → FitsBook b es → FitsBook (book_after last e b) (es ++ e ∷ [])
after_fits keys b e last es below h fits = record {
  contents = contents_fit b.contents e es (let few = h.venues in omega (arith, below, few)) h.count
      h.rows
      fits.contents;
}

pub after_changes : (keys : List ℕ) (b : BookState) (e : Entry) (p : ℕ) (es : List Entry)
    → venue_of e < b.venues
    → IsBook keys b → FitsBook b es
    → filter_map (row_change (helped_after e b.contents.helped) (b.contents.applied + 1) p e)
    b.contents.rows ≡
    changes_by b.symbols es p e
after_changes keys b e p es below h fits =
    let k : BookContents = b.contents in
    let kept : ContentsFit es k = fits.contents in
    changes_are es e p k.helped (k.applied + 1) k.rows (let few = h.venues
    in omega (arith, below, few)) h.count
    (let a = kept.applied in omega (arith, a)) kept.helped h.rows kept.rows
    ∙ ap (λ ss. changes_by ss es p e) (sym h.symbols)

pub after_symbols : (last : ℕ) (e : Entry) (b : BookState)
    → (book_after last e b).symbols ≡ symbols_in_rows b.contents.rows
after_symbols last e b =
    let k : BookContents = b.contents in rows_keep_symbols (helped_after e k.helped)
    (k.applied + 1) e k.rows

-- the parts that a step leaves make the book after it
pub next_book : {Z : Type 0} (b : BookState) (e : Entry) (last venues : ℕ)
    (v : Vec Row Z) (rows old : List Row)
    (helped : List Bool) → length rows ≡ v.len
    → rows ≡ map (row_after helped (b.contents.applied + 1) e) old
    → old ≡ b.contents.rows → helped ≡ helped_after e b.contents.helped → venues ≡ b.venues
    → book_state_of (with_items v rows).items venues last (b.contents.applied + 1)
    helped ≡ book_after last e b
next_book b e last venues v rows old helped long mapped was flags count =
    let k : BookContents = b.contents in
    ap (λ (t : List Row). book_state_of t venues last (k.applied + 1) helped)
    (with_items_is v rows long ∙ mapped ∙ ap (map (row_after helped (k.applied + 1) e)) was)
    ∙ ap (λ (t : List Bool). book_state_of (map (row_after t (k.applied + 1) e) k.rows) venues
    last (k.applied + 1) t)
    flags
    ∙ ap (λ (n : ℕ). book_state_of (contents_after e k).rows n last (k.applied + 1)
    (helped_after e k.helped)) count

-- the row at the place that a symbol was found
national_found : (k : BookContents) (es : List Entry) (s : List ℕ) (i : ℕ) (d : Row)
    → HasRows k → ContentsFit es k
    → position (bytes_eq s) (symbols_in_rows k.rows) ≡ Some i
    → national_at (get_or k.rows i d) ≡ national_of es s
national_found k es s i d rows fits at =
    let found = found_symbol k.rows s i d at in
    national_is es k.helped (k.applied + 1) (get_or k.rows i d) fits.helped
    (all_rows_at (IsRow k.helped (k.applied + 1)) k.rows i d found.0 rows)
    (all_rows_at (RowFits es) k.rows i d found.0 fits.rows)
    ∙ ap (national_of es) found.1

row_ranking : (es : List Entry) (side : Side) (helped : List Bool) (n : ℕ) (r : Row)
    → ((w : ℕ) → w < 16 → slice_index_or helped w false ≡ is_self_helped es w)
    → IsRow helped n r → RowFits es r
    → IsRanking es r.symbol side (side_at side r).ranks
row_ranking es Bid helped n r flags h fits =
    ranking_is es r.symbol Bid r.bids.ranks
    (side_ranking es r.symbol Bid (may_at helped r.halted) n (side_at Bid r)
    (may_is es helped r flags fits)
    fits.bids h.bids)
row_ranking es Offer helped n r flags h fits =
    ranking_is es r.symbol Offer r.offers.ranks
    (side_ranking es r.symbol Offer (may_at helped r.halted) n (side_at Offer r)
    (may_is es helped r flags fits)
    fits.offers h.offers)

ranking_found : (k : BookContents) (es : List Entry) (s : List ℕ) (side : Side) (i : ℕ) (d : Row)
    → HasRows k
    → ContentsFit es k → position (bytes_eq s) (symbols_in_rows k.rows) ≡ Some i
    → IsRanking es s side (side_at side (get_or k.rows i d)).ranks
ranking_found k es s side i d rows fits at =
    let found = found_symbol k.rows s i d at in
    let r : Row = get_or k.rows i d in
    subst (λ (t : List ℕ). IsRanking es t side (side_at side r).ranks) found.1
    (row_ranking es side k.helped (k.applied + 1) r fits.helped
    (all_rows_at (IsRow k.helped (k.applied + 1)) k.rows i d found.0 rows)
    (all_rows_at (RowFits es) k.rows i d found.0 fits.rows))

-- what a book keeps of the symbol that was found there
pub found_shows : (k : BookContents) (es : List Entry) (s : List ℕ) (i : ℕ) (d : Row)
    → HasRows k → ContentsFit es k
    → position (bytes_eq s) (symbols_in_rows k.rows) ≡ Some i → ShowsSymbol es s (get_or k.rows i d)
found_shows k es s i d rows fits at = record {
  national = national_found k es s i d rows fits at;
  ranking = λ side. ranking_found k es s side i d rows fits at;
}

-- a new book
all_alike : {X : Type 0} (n v : ℕ) (x : X) → get_or (replicate n x) v x ≡ x
all_alike zero v x = refl
all_alike (suc n) zero x = refl
all_alike (suc n) (suc v) x = all_alike n v x

abbrev unknown : VenueSide
unknown = record { quote = None; age = 0 }

nothing_stands : (v : ℕ) → venue_side_at empty_side.venue_sides v ≡ unknown
nothing_stands v = all_alike 16 v unknown

empty_side_is : (b : Side) (may : ℕ → Bool) → IsSide b may 1 empty_side
empty_side_is b may = record {
  count = refl;
  past = λ v l. subst (λ (t : ℕ). t < 1) (sym (ap (λ (t : VenueSide). t.age) (nothing_stands v)))
      (omega arith);
  apart = λ v w l m n there too same.
      (let no : false ≡ true = sym (ap (λ (t : VenueSide). is_some t.quote) (nothing_stands v))
      ∙ there in cc);
  ranked = record {
    members = λ x. (
      λ i. absurd i,
      λ k. (let no : None ≡ Some x =
          sym (ap (λ (t : VenueSide). ranked_by (may x.venue) x.venue t.quote)
          (nothing_stands x.venue)
          ∙ ranked_nothing (may x.venue) x.venue) ∙ k.1 in cc),
    );
    order = tt;
  };
}

empty_rows_are : (helped : List Bool) (ss : List (List ℕ))
    → AllByRecursion (IsRow helped 1) (map empty_row ss)
empty_rows_are helped [] = tt
empty_rows_are helped (s ∷ ss) = (
  record {
    bids = empty_side_is Bid (may_at helped (replicate 16 false));
    offers =
        empty_side_is Offer (may_at helped (replicate 16 false));
    count = refl;
  },
  empty_rows_are helped ss,
)

empty_rows_fit : (ss : List (List ℕ)) → AllByRecursion (RowFits []) (map empty_row ss)
empty_rows_fit [] = tt
empty_rows_fit (s ∷ ss) = (
  record {
    bids = λ v l. nothing_stands v;
    offers = λ v l. nothing_stands v;
    halted =
        λ v l. all_alike 16 v false;
  },
  empty_rows_fit ss,
)

pub rows_more : (ss : List (List ℕ)) (i : ℕ) (s d : List ℕ) → i < length ss → s ≡ get_or ss i d
    → map empty_row (take i ss) ++ empty_row s ∷ [] ≡ map empty_row (take (suc i) ss)
rows_more [] i s d l e = absurd (omega (arith, l))
rows_more (t ∷ ss) zero s d l e = ap (λ u. empty_row u ∷ []) e
rows_more (t ∷ ss) (suc i) s d l e = ap (λ u. empty_row t ∷ u)
    (rows_more ss i s d (omega (arith, l)) e)

pub empty_symbols : (ss : List (List ℕ)) → symbols_in_rows (map empty_row ss) ≡ ss
empty_symbols [] = refl
empty_symbols (s ∷ ss) = ap (λ t. s ∷ t) (empty_symbols ss)

abbrev pub empty_book : ℕ → List Row → BookState
empty_book venues rows = book_state_of rows venues 0 0 (replicate 16 false)

pub empty_is : (keys : List ℕ) (ss : List (List ℕ)) (venues : ℕ) (rows : List Row) → venues ≤ 16
    → rows ≡ map empty_row ss → IsTable ss keys → IsBook keys (empty_book venues rows)
empty_is keys ss venues rows few is table =
    subst (λ (t : List Row). IsBook keys (empty_book venues t)) (sym is) (record {
      symbols = refl;
      table = subst (λ (t : List (List ℕ)). IsTable t keys) (sym (empty_symbols ss)) table;
      venues = few;
      applied = omega arith;
      count = refl;
      rows = empty_rows_are (replicate 16 false) ss;
    })

pub empty_fits : (ss : List (List ℕ)) (venues : ℕ) (rows : List Row) → rows ≡ map empty_row ss
    → FitsBook (empty_book venues rows) []
empty_fits ss venues rows is =
    subst (λ (t : List Row). FitsBook (empty_book venues t) []) (sym is) (record {
      contents = record {
        applied = refl;
        helped = λ v l. all_alike 16 v false;
        rows = empty_rows_fit ss;
      };
    })
