-- What is kept of a symbol fits the entries, after one more.
use Rattle.std.proofs.Common.{ℕ, suc, ◌<◌, ◌≡◌, List, [], ◌∷◌, ◌++◌, Bool, true, false, refl, ap, sym, ◌∙◌, subst, arith, length, nat_eq, cond, Option, Some, None, unwrap_or, set, get_or}
use Rattle.std.specs.Str.{bytes_eq}
use Rattle.feed_types.specs.declared.journal.Entry.{Entry}
use Rattle.feed_types.specs.declared.journal.Entry.TheVariants.{Consumed, SelfHelp}
use Rattle.feed_types.specs.declared.item.Item.{Item}
use Rattle.feed_types.specs.declared.item.Item.TheVariants as item
use Rattle.feed_types.specs.declared.line.Side.{Side}
use Rattle.feed_types.specs.declared.line.Side.TheVariants.{Bid, Offer}
use Rattle.nbbo_book.specs.declared.side_quote.SideQuote.{SideQuote}
use Rattle.nbbo_book.specs.declared.venue_side.VenueSide.{VenueSide}
use Rattle.nbbo_book.specs.declared.row.Row.{Row}
use Rattle.nbbo_book.specs.Sides.{quoted_by, side_said, side_of, is_same_side, age_of}
use Rattle.nbbo_book.specs.Eligible.{is_self_helped, halt_said, is_halted}
use Rattle.nbbo_book.specs.Contents.{SideFits, RowFits}
use Rattle.nbbo_book.specs.Books.{venue_of}
use Rattle.nbbo_book.specs.Rows.{may_at, side_at, row_quoted, row_halted, row_after, row_after_item, helped_after}
use Rattle.nbbo_book.specs.Tables.{IsRow}
use Rattle.nbbo_book.specs.VenueSides.{BookSide, venue_side_at}
use Rattle.nbbo_book.specs.BookSides.{side_set, side_quoted}
use Rattle.nbbo_book.proofs.Ranking.{nat_refl, nat_split}
use Rattle.nbbo_book.proofs.EntryEffects.{side_of-put, helped-put, halted-put, age-kept, age-new, same_side_sound}
use Rattle.nbbo_book.proofs.SideInvariant.{set_at, set_off, apart_from, venue_side_set, venue_side_off}

cond_same : {T : Type 0} (b : Bool) (x : T) → cond b x x ≡ x
cond_same true x = refl
cond_same false x = refl

nat_other : (w v : ℕ) → nat_eq w v ≡ false → nat_eq v w ≡ false
nat_other w v h = grind (arith, h)

unsaid : (es : List Entry) (e : Entry) (w : ℕ) (s : List ℕ) (b : Side) → side_said w s b e ≡ None
    → side_of (es ++ e ∷ []) w s b ≡ side_of es w s b
unsaid es e w s b h = side_of-put es e w s b ∙ ap (λ o. unwrap_or o (side_of es w s b)) h

told : (es : List Entry) (e : Entry) (w : ℕ) (s : List ℕ) (b : Side) (o : Option SideQuote)
    → side_said w s b e ≡ Some o → side_of (es ++ e ∷ []) w s b ≡ o
told es e w s b o h = side_of-put es e w s b ∙ ap (λ t. unwrap_or t (side_of es w s b)) h

abbrev venue_side_of : List Entry → ℕ → List ℕ → Side → VenueSide
venue_side_of es v s b = record { quote = side_of es v s b; age = age_of es v s b }

stands_same : (es : List Entry) (e : Entry) (v : ℕ) (s : List ℕ) (b : Side)
    → side_of (es ++ e ∷ []) v s b ≡ side_of es v s b
    → venue_side_of (es ++ e ∷ []) v s b ≡ venue_side_of es v s b
stands_same es e v s b h = ap (λ t. record { quote = t; age = age_of (es ++ e ∷ []) v s b }) h
    ∙ ap (λ t. record { quote = side_of es v s b; age = t }) (age-kept es e v s b h)

-- where each side stays as it is
pub fits_stay : (es : List Entry) (e : Entry) (s : List ℕ) (b : Side) (ss : List VenueSide)
    → ((w : ℕ) → w < 16 → side_of (es ++ e ∷ []) w s b ≡ side_of es w s b) → SideFits es s b ss
    → SideFits (es ++ e ∷ []) s b ss
fits_stay es e s b ss same h = λ w l. h w l ∙ sym (stands_same es e w s b (same w l))

-- where one venue's side is said
fits_quoted : (es : List Entry) (e : Entry) (v : ℕ) (o : Option SideQuote) (s : List ℕ)
    (b : Side) (k : BookSide)
    (n : ℕ) (may : Bool) → v < 16 → length k.venue_sides ≡ 16 → n ≡ suc (length es)
    → ((w : ℕ) → side_said w s b e ≡ cond (nat_eq v w) (Some o) None)
    → SideFits es s b k.venue_sides
    → SideFits (es ++ e ∷ []) s b (side_quoted b v o n may k).venue_sides
fits_quoted es e v o s b k n may below long young says h =
    let ss : List VenueSide = k.venue_sides in
    let away : (w : ℕ) → nat_eq w v ≡ false
    → side_of (es ++ e ∷ []) w s b ≡ side_of es w s b =
    λ w d. unsaid es e w s b (says w ∙ ap (λ t. cond t (Some o) None) (nat_other w v d)) in
    let now : side_of (es ++ e ∷ []) v s b ≡ o =
    told es e v s b o (says v ∙ ap (λ t. cond t (Some o) None) (nat_refl v)) in
    let was : (venue_side_at ss v).quote ≡ side_of es v s b =
    ap (λ (t : VenueSide). t.quote) (h v below) in
    let st : VenueSide = record { quote = o; age = n } in
    let R : Bool → Type 0 = λ t. is_same_side (venue_side_at ss v).quote o ≡ t
    → SideFits (es ++ e ∷ []) s b (cond t k (side_set b v st may k)).venue_sides in
    (elim (is_same_side (venue_side_at ss v).quote o) as R [
      | true ↦ λ q. fits_stay es e s b ss
          (λ w l. nat_split w v (side_of (es ++ e ∷ []) w s b ≡ side_of es w s b)
          (λ same. ap (λ (u : ℕ). side_of (es ++ e ∷ []) u s b) same ∙ now
          ∙ sym (same_side_sound (venue_side_at ss v).quote o q) ∙ was
          ∙ ap (λ (u : ℕ). side_of es u s b) (sym same))
          (away w)) h
      | false ↦ λ q. λ w l. nat_split w v (venue_side_at (set ss v st)
          w ≡ venue_side_of (es ++ e ∷ []) w s b)
          (λ same.
          let differs : is_same_side (side_of es v s b) (side_of (es ++ e ∷ []) v s b) ≡ false =
          ap (λ t. is_same_side t (side_of (es ++ e ∷ []) v s b)) (sym was)
          ∙ ap (is_same_side (venue_side_at ss v).quote) now ∙ q in
          let there : venue_side_at (set ss v st) v ≡ venue_side_of (es ++ e ∷ []) v s b =
          venue_side_set ss v st (omega (arith, below, long))
          ∙ ap (λ t. record { quote = t; age = n }) (sym now)
          ∙ ap (λ t. record { quote = side_of (es ++ e ∷ []) v s b; age = t })
          (young ∙ sym (age-new es e v s b differs)) in
          subst (λ (u : ℕ). venue_side_at (set ss v st) u ≡ venue_side_of (es ++ e ∷ []) u s b)
          (sym same) there)
          (λ d. venue_side_off ss v w st d ∙ h w l ∙ sym (stands_same es e w s b (away w d)))
    ]) refl

-- the halts of a symbol are those of the entries
abbrev HaltsFit : List Entry → List ℕ → List Bool → Type 0
HaltsFit es s xs = (w : ℕ) → w < 16 → get_or xs w false ≡ is_halted es w s

halts_stay : (es : List Entry) (e : Entry) (s : List ℕ) (xs : List Bool)
    → ((w : ℕ) → halt_said w s e ≡ None)
    → HaltsFit es s xs → HaltsFit (es ++ e ∷ []) s xs
halts_stay es e s xs says h = λ w l. h w l
    ∙ sym (halted-put es e w s ∙ ap (λ o. unwrap_or o (is_halted es w s)) (says w))

halts_set : (es : List Entry) (e : Entry) (v : ℕ) (x : Bool) (s : List ℕ) (xs : List Bool)
    → v < 16 → length xs ≡ 16
    → ((w : ℕ) → halt_said w s e ≡ cond (nat_eq v w) (Some x) None) → HaltsFit es s xs
    → HaltsFit (es ++ e ∷ []) s (set xs v x)
halts_set es e v x s xs below long says h =
    λ w l. nat_split w v (get_or (set xs v x) w false ≡ is_halted (es ++ e ∷ []) w s)
    (λ same. subst (λ (u : ℕ). get_or (set xs v x) u false ≡ is_halted (es ++ e ∷ []) u s)
    (sym same)
    (set_at xs v x false (omega (arith, below, long))
    ∙ sym (halted-put es e v s ∙ ap (λ o. unwrap_or o (is_halted es v s))
    (says v ∙ ap (λ t. cond t (Some x) None) (nat_refl v)))))
    (λ d. set_off xs v w x false (apart_from v w d) ∙ h w l
    ∙ sym (halted-put es e w s ∙ ap (λ o. unwrap_or o (is_halted es w s))
    (says w ∙ ap (λ t. cond t (Some x) None) (nat_other w v d))))

row_waits : (es : List Entry) (e : Entry) (r : Row)
    → ((w : ℕ) (b : Side) → side_said w r.symbol b e ≡ None)
    → ((w : ℕ) → halt_said w r.symbol e ≡ None) → RowFits es r → RowFits (es ++ e ∷ []) r
row_waits es e r sides halts h = record {
  bids = fits_stay es e r.symbol Bid r.bids.venue_sides (λ w l. unsaid es e w r.symbol
      Bid (sides w Bid)) h.bids;
  offers = fits_stay es e r.symbol Offer r.offers.venue_sides
      (λ w l. unsaid es e w r.symbol Offer (sides w Offer))
      h.offers;
  halted = halts_stay es e r.symbol r.halted halts h.halted;
}

item_fits : (es : List Entry) (v number n m : ℕ) (i : Item) (helped flags : List Bool) (r : Row)
    → v < 16
    → n ≡ suc (length es) → IsRow flags m r → RowFits es r
    → RowFits (es ++ Consumed v (record { number = number; item = i }) ∷ [])
    (row_after_item helped n v i r)
item_fits es v number n m (item.Quote q) helped flags r below young is h =
    let e : Entry = Consumed v (record { number = number; item = item.Quote q }) in
    let R : Bool → Type 0 = λ t. bytes_eq q.symbol r.symbol ≡ t
    → RowFits (es ++ e ∷ []) (cond t (row_quoted helped v q n r) r) in
    (elim (bytes_eq q.symbol r.symbol) as R [
      | true ↦ λ k. record {
        bids = fits_quoted es e v (Some (quoted_by q Bid)) r.symbol Bid (side_at Bid r) n
            (may_at helped r.halted v)
            below is.bids.count young (λ w. ap
            (λ t. cond (nat_eq v w) (cond t (Some (Some (quoted_by q Bid))) None) None) k) h.bids;
        offers = fits_quoted es e v (Some (quoted_by q Offer)) r.symbol Offer (side_at Offer r) n
            (may_at helped r.halted v) below is.offers.count young
            (λ w. ap (λ t. cond (nat_eq v w) (cond t (Some (Some (quoted_by q Offer))) None) None)
            k) h.offers;
        halted = halts_stay es e r.symbol r.halted (λ w. cond_same (nat_eq v w) None) h.halted;
      }
      | false ↦ λ k. row_waits es e r
          (λ w b. ap (λ t. cond (nat_eq v w) (cond t (Some (Some (quoted_by q b))) None) None) k
          ∙ cond_same (nat_eq v w) None) (λ w. cond_same (nat_eq v w) None) h
    ]) refl
item_fits es v number n m (item.Halt s x) helped flags r below young is h =
    let e : Entry = Consumed v (record { number = number; item = item.Halt s x }) in
    let R : Bool → Type 0 = λ t. bytes_eq s r.symbol ≡ t
    → RowFits (es ++ e ∷ []) (cond t (row_halted helped v x r) r) in
    (elim (bytes_eq s r.symbol) as R [
      | true ↦ λ k. record {
        bids = fits_stay es e r.symbol Bid r.bids.venue_sides
            (λ w l. unsaid es e w r.symbol Bid (cond_same (nat_eq v w) None)) h.bids;
        offers = fits_stay es e r.symbol Offer r.offers.venue_sides
            (λ w l. unsaid es e w r.symbol Offer (cond_same (nat_eq v w) None)) h.offers;
        halted = halts_set es e v x r.symbol r.halted below is.count
            (λ w. ap (λ t. cond (nat_eq v w) (cond t (Some x) None) None) k) h.halted;
      }
      | false ↦ λ k. row_waits es e r (λ w b. cond_same (nat_eq v w) None)
          (λ w. ap (λ t. cond (nat_eq v w) (cond t (Some x) None) None) k
          ∙ cond_same (nat_eq v w) None) h
    ]) refl
item_fits es v number n m item.Other helped flags r below young is h =
    row_waits es (Consumed v (record { number = number; item = item.Other })) r
    (λ w b. cond_same (nat_eq v w) None)
    (λ w. cond_same (nat_eq v w) None) h
item_fits es v number n m item.End helped flags r below young is h =
    let e : Entry = Consumed v (record { number = number; item = item.End }) in
    record {
      bids = fits_quoted es e v None r.symbol Bid (side_at Bid r) n false below is.bids.count
          young (λ w. refl) h.bids;
      offers = fits_quoted es e v None r.symbol Offer (side_at Offer r) n false
          below is.offers.count young
          (λ w. refl) h.offers;
      halted = halts_set es e v false r.symbol r.halted below is.count (λ w. refl) h.halted;
    }
item_fits es v number n m item.Skipped helped flags r below young is h =
    let e : Entry = Consumed v (record { number = number; item = item.Skipped }) in
    record {
      bids = fits_quoted es e v None r.symbol Bid (side_at Bid r) n false below is.bids.count
          young (λ w. refl) h.bids;
      offers = fits_quoted es e v None r.symbol Offer (side_at Offer r) n false
          below is.offers.count young
          (λ w. refl) h.offers;
      halted = halts_set es e v false r.symbol r.halted below is.count (λ w. refl) h.halted;
    }

-- a symbol, after one more entry
pub row_fits : (es : List Entry) (e : Entry) (n m : ℕ) (helped flags : List Bool) (r : Row)
    → venue_of e < 16
    → n ≡ suc (length es) → IsRow flags m r → RowFits es r
    → RowFits (es ++ e ∷ []) (row_after helped n e r)
row_fits es (Consumed v x) n m helped flags r below young is h =
    item_fits es v x.number n m x.item helped flags r below young is h
row_fits es (SelfHelp v on) n m helped flags r below young is h = record {
  bids = fits_stay es (SelfHelp v on) r.symbol Bid r.bids.venue_sides
      (λ w l. unsaid es (SelfHelp v on) w r.symbol Bid refl) h.bids;
  offers = fits_stay es (SelfHelp v on) r.symbol Offer r.offers.venue_sides
      (λ w l. unsaid es (SelfHelp v on) w r.symbol Offer refl) h.offers;
  halted = halts_stay es (SelfHelp v on) r.symbol r.halted (λ w. refl) h.halted;
}

-- the venues' self-help, after one more entry
pub helped_fits : (es : List Entry) (e : Entry) (helped : List Bool)
    → length helped ≡ 16 → venue_of e < 16
    → ((w : ℕ) → w < 16 → get_or helped w false ≡ is_self_helped es w) → (w : ℕ) → w < 16
    → get_or (helped_after e helped) w false ≡ is_self_helped (es ++ e ∷ []) w
helped_fits es (Consumed v x) helped long below h w l = h w l ∙ sym (helped-put es (Consumed v x) w)
helped_fits es (SelfHelp v on) helped long below h w l =
    nat_split w v (get_or (set helped v on) w false ≡ is_self_helped (es ++ SelfHelp v on ∷ []) w)
    (λ same. subst (λ (u : ℕ). get_or (set helped v on) u false ≡ is_self_helped (es
    ++ SelfHelp v on ∷ []) u)
    (sym same)
    (set_at helped v on false (omega (arith, below, long))
    ∙ sym (helped-put es (SelfHelp v on) v
    ∙ ap (λ t. unwrap_or (cond t (Some on) None) (is_self_helped es v)) (nat_refl v))))
    (λ d. set_off helped v w on false (apart_from v w d) ∙ h w l
    ∙ sym (helped-put es (SelfHelp v on) w
    ∙ ap (λ t. unwrap_or (cond t (Some on) None) (is_self_helped es w)) (nat_other w v d)))
