-- What a book keeps of a side, after a venue's side was set or its right to be ranked changed.
use Rattle.std.proofs.Common.{ℕ, zero, suc, ◌<◌, ◌≤◌, ◌≡◌, ◌+◌, List, [], ◌∷◌, Bool, true, false, refl, ap, sym, ◌∙◌, subst, arith, length, cond, nat_eq, nat_lt, Option, Some, None, set, get_or}
use Rattle.std.proofs.lemmas.List.{get_or_past}
use Rattle.std.specs.Prelude.{◌&&◌, IsSome, is_some, ◌≢◌}
use Rattle.feed_types.specs.declared.line.Side.{Side}
use Rattle.feed_types.specs.declared.national.Best.{Best}
use Rattle.nbbo_book.specs.declared.side_quote.SideQuote.{SideQuote}
use Rattle.nbbo_book.specs.declared.venue_side.VenueSide.{VenueSide}
use Rattle.nbbo_book.specs.Sides.{is_same_side}
use Rattle.nbbo_book.specs.Eligible.{ranked_by, is_protected}
use Rattle.nbbo_book.specs.declared.ranks.Cause.{Cause}
use Rattle.nbbo_book.specs.declared.ranks.Cause.TheVariants.{Quoted, Rechecked}
use Rattle.nbbo_book.specs.declared.ranks.Order.{Order}
use Rattle.nbbo_book.specs.Ranks.{CanUpdate, IsCause, InRank, IsIn, IsNewest, without, placed, IsRankingOf}
use Rattle.nbbo_book.specs.Tables.{IsSide}
use Rattle.nbbo_book.specs.VenueSides.{BookSide, sides_in, book_side_of, venue_side_at, age_at}
use Rattle.nbbo_book.specs.BookSides.{CanRank, IsCausedBy, rank_at, side_set, side_quoted, side_rechecked, ArePast, IsRanked}
use Rattle.nbbo_book.proofs.EntryEffects.{and_left, same_side_refl}
use Rattle.nbbo_book.proofs.Fronts.{best_same}
use Rattle.nbbo_book.proofs.Ranking.{nat_split, some_same, ranking_same, ranking_set, ranking_room, without_none, InRank-ages, InRank-without, all_from_in, in_all}

pub set_at : {X : Type 0} (xs : List X) (i : ℕ) (x d : X) → i < length xs
    → get_or (set xs i x) i d ≡ x
set_at [] i x d h = absurd (omega (arith, h))
set_at (y ∷ xs) zero x d h = refl
set_at (y ∷ xs) (suc i) x d h = set_at xs i x d (omega (arith, h))

pub set_off : {X : Type 0} (xs : List X) (i j : ℕ) (x d : X) → (i ≡ j → ⊥)
    → get_or (set xs i x) j d ≡ get_or xs j d
set_off [] i j x d h = refl
set_off (y ∷ xs) zero zero x d h = absurd (h refl)
set_off (y ∷ xs) zero (suc j) x d h = refl
set_off (y ∷ xs) (suc i) zero x d h = refl
set_off (y ∷ xs) (suc i) (suc j) x d h = set_off xs i j x d (λ e. h (ap suc e))

pub apart_from : (i j : ℕ) → nat_eq j i ≡ false → i ≡ j → ⊥
apart_from i j h e = grind (arith, h, e)

pub long_set : {X : Type 0} (xs : List X) (i : ℕ) (x : X) → length (set xs i x) ≡ length xs
long_set [] i x = refl
long_set (y ∷ xs) zero x = refl
long_set (y ∷ xs) (suc i) x = ap suc (long_set xs i x)

-- a venue is ranked under its own number, and with what it shows
pub ranked_own : (m : Bool) (v : ℕ) (o : Option SideQuote) (x : Best)
    → ranked_by m v o ≡ Some x → x.venue ≡ v
ranked_own false v o x e = cc
ranked_own true v None x e = cc
ranked_own true v (Some quote) x e =
    let R : Bool
    → Type 0 = λ t. cond t (Some (record { venue = v; price = quote.price; size = quote.size }))
    None ≡
    Some x → x.venue ≡ v in
    (elim (is_protected quote) as R [
      | true ↦ λ k. ap (λ (y : Best). y.venue)
          (sym (some_same k))
      | false ↦ λ k. cc
    ]) e

pub ranked_quote : (m : Bool) (v : ℕ) (o : Option SideQuote) (x : Best)
    → ranked_by m v o ≡ Some x → IsSome o
ranked_quote false v o x e = cc
ranked_quote true v None x e = cc
ranked_quote true v (Some quote) x e = refl

pub ranked_nothing : (m : Bool) (v : ℕ) → ranked_by m v None ≡ None
ranked_nothing false v = refl
ranked_nothing true v = refl

-- the side of a venue, after one was set
pub venue_side_set : (xs : List VenueSide) (v : ℕ) (st : VenueSide) → v < length xs
    → venue_side_at (set xs v st) v ≡ st
venue_side_set xs v st h = set_at xs v st _ h

pub venue_side_off : (xs : List VenueSide) (v w : ℕ) (st : VenueSide) → nat_eq w v ≡ false
    → venue_side_at (set xs v st) w ≡ venue_side_at xs w
venue_side_off xs v w st h = set_off xs v w st _ (apart_from v w h)

-- what a venue is ranked with is what it shows
pub ranked_as : (m : Bool) (v : ℕ) (o : Option SideQuote) (x : Best) → ranked_by m v o ≡ Some x
    → o ≡ Some (record { price = x.price; size = x.size; automated = true })
ranked_as false v o x e = cc
ranked_as true v None x e = cc
ranked_as true v (Some quote) x e =
    (elim (is_protected quote) as (λ t. is_protected quote ≡ t
    → cond t (Some (record { venue = v; price = quote.price; size = quote.size })) None ≡ Some x
    → Some quote ≡ Some (record { price = x.price; size = x.size; automated = true })) [
      | true ↦ λ p k.
          let same : record { venue = v; price = quote.price; size = quote.size } ≡ x = some_same k
          in
          ap (λ t. Some (record { price = quote.price; size = quote.size; automated = t }))
          (and_left quote.automated (nat_lt 0 quote.price && nat_lt 0 quote.size) p)
          ∙ ap (λ (t : Best). Some (record { price = t.price; size = t.size; automated = true }))
          same
      | false ↦ λ p k. cc
    ]) refl e

-- what code asks of a side
pub side_is_ranked : (b : Side) (may : ℕ → Bool) (n : ℕ) (k : BookSide)
    → IsSide b may n k → IsRanked b k
side_is_ranked b may n k h = record {
  count = h.count;
  order = h.ranked.order;
  quote = λ x i. ranked_as (may x.venue) x.venue (venue_side_at k.venue_sides x.venue).quote x
      ((h.ranked.members x).0 i).1;
  once = λ v. without_none b (age_at k.venue_sides) (rank_at may k.venue_sides) v k.ranks
      (λ x i. ((h.ranked.members x).0 i).1) h.ranked.order;
  room = λ v l. ranking_room b (rank_at may k.venue_sides) (age_at k.venue_sides) v k.ranks l
      h.ranked;
}

-- the others are in order, also by ages of which the venue's differs
pub others_in_order : (b : Side) (k : BookSide) (v : ℕ) → IsRanked b k
    → InRank b (age_at k.venue_sides) (without v k.ranks)
others_in_order b k v h = InRank-without b (age_at k.venue_sides) v k.ranks h.order

pub others_stay : (b : Side) (k : BookSide) (v : ℕ) (st : VenueSide) → IsRanked b k
    → InRank b (age_at (set k.venue_sides v st)) (without v k.ranks)
others_stay b k v st h = InRank-ages b (age_at k.venue_sides) (age_at (set k.venue_sides v st))
    (without v k.ranks)
    (λ x i. ap (λ (t : VenueSide). t.age)
    (sym (set_off k.venue_sides v x.venue st _
    (apart_from v x.venue (in_all (λ y. nat_eq y.venue v ≡ false) (without v k.ranks) (h.once v) x
    i)))))
    (others_in_order b k v h)

-- none of them is newer than a side that is of the next entry
age_at_most : (next : ℕ) (ss : List VenueSide) (w : ℕ) → ArePast next ss
    → length ss ≡ 16 → age_at ss w ≤ next
age_at_most next ss w past count =
    (elim (nat_lt w 16) as (λ t. nat_lt w 16 ≡ t → age_at ss w ≤ next) [
      | true ↦ λ e. (let p = past w (grind (arith, e)) in omega (arith, p))
      | false ↦ λ e. subst (λ (t : VenueSide). t.age ≤ next)
          (sym (get_or_past ss w _ (grind (arith, e, count))))
          (omega arith)
    ]) refl

pub others_older : (b : Side) (k : BookSide) (v : ℕ) (x : Best) (st : VenueSide) → v < 16
    → x.venue ≡ v
    → ArePast st.age k.venue_sides → IsRanked b k
    → IsNewest (age_at (set k.venue_sides v st)) x (without v k.ranks)
others_older b k v x st below at past h =
    let ss = set k.venue_sides v st in
    let own : age_at ss x.venue ≡ st.age = ap (age_at ss) at
    ∙ ap (λ (t : VenueSide). t.age) (venue_side_set k.venue_sides v st
    (omega (arith, below, h.count))) in
    all_from_in (λ y. nat_lt (age_at ss x.venue) (age_at ss y.venue) ≡ false)
    (without v k.ranks) (λ y i.
    let other : nat_eq y.venue v ≡ false = in_all (λ z. nat_eq z.venue v ≡ false)
    (without v k.ranks) (h.once v) y i in
    let its : age_at ss y.venue ≤ st.age =
    subst (λ (n : ℕ). n ≤ st.age) (sym
    (ap (λ (t : VenueSide). t.age) (venue_side_off k.venue_sides v y.venue st other)))
    (age_at_most st.age k.venue_sides y.venue past h.count) in
    grind (arith, own, its))

-- more entries, of which none concerns the side
pub side_waits : (b : Side) (may more : ℕ → Bool) (n m : ℕ) (k : BookSide) → n ≤ m
    → ((w : ℕ) → w < 16 → rank_at may k.venue_sides w ≡ rank_at more k.venue_sides w)
    → IsSide b may n k
    → IsSide b more m k
side_waits b may more n m k l same h = record {
  count = h.count;
  past = λ v u. (let p = h.past v u in omega (arith, p, l));
  apart = h.apart;
  ranked = ranking_same b (rank_at may k.venue_sides)
      (rank_at more k.venue_sides) (age_at k.venue_sides)
      (age_at k.venue_sides) k.ranks same (λ w u. refl) h.ranked;
}

-- a venue's side differs, with an age of its own
pub side_set-is : (b : Side) (may more : ℕ → Bool) (n m : ℕ) (k : BookSide) (v : ℕ)
    (st : VenueSide) (here : Bool)
    → v < 16 → n ≤ m → st.age < m →
    (IsSome st.quote → (w : ℕ) → w < 16 → nat_eq w v ≡ false
    → IsSome (venue_side_at k.venue_sides w).quote
    → st.age ≡ age_at k.venue_sides w → ⊥) → ((w : ℕ) → nat_eq w v ≡ false → more w ≡ may w)
    → ranked_by (more v) v st.quote ≡ ranked_by here v st.quote → IsSide b may n k
    → IsSide b more m (side_set b v st here k)
side_set-is b may more n m k v st here below l young own_age same leave h =
    let under : v < length k.venue_sides = omega (arith, below, h.count) in
    let ss = set k.venue_sides v st in
    let at : venue_side_at ss v ≡ st = venue_side_set k.venue_sides v st under in
    let off : (w : ℕ) → nat_eq w v ≡ false
    → venue_side_at ss w ≡ venue_side_at k.venue_sides w = λ w e. venue_side_off
    k.venue_sides v w st e in
    let apart : (u w : ℕ) → u < 16 → w < 16 → u ≢ w → IsSome (venue_side_at ss u).quote
    → IsSome (venue_side_at ss w).quote → age_at ss u ≢ age_at ss w =
    λ u w a c differ there too same_age.
    nat_split u v ⊥
    (λ eu. nat_split w v ⊥ (λ ew. differ (eu ∙ sym ew))
    (λ nw. own_age
    (sym (ap (λ (t : VenueSide). is_some t.quote) (ap (venue_side_at ss) eu ∙ at)) ∙ there)
    w c nw
    (sym (ap (λ (t : VenueSide). is_some t.quote) (off w nw)) ∙ too)
    (sym (ap (λ (t : VenueSide). t.age) (ap (venue_side_at ss) eu ∙ at)) ∙ same_age
    ∙ ap (λ (t : VenueSide). t.age) (off w nw))))
    (λ nu. nat_split w v ⊥
    (λ ew. own_age
    (sym (ap (λ (t : VenueSide). is_some t.quote) (ap (venue_side_at ss) ew ∙ at)) ∙ too)
    u a nu
    (sym (ap (λ (t : VenueSide). is_some t.quote) (off u nu)) ∙ there)
    (sym (ap (λ (t : VenueSide). t.age) (ap (venue_side_at ss) ew ∙ at)) ∙ sym same_age
    ∙ ap (λ (t : VenueSide). t.age) (off u nu)))
    (λ nw. h.apart u w a c differ
    (sym (ap (λ (t : VenueSide). is_some t.quote) (off u nu)) ∙ there)
    (sym (ap (λ (t : VenueSide). is_some t.quote) (off w nw)) ∙ too)
    (sym (ap (λ (t : VenueSide). t.age) (off u nu)) ∙ same_age
    ∙ ap (λ (t : VenueSide). t.age) (off w nw)))) in
    let ranked : IsRankingOf b (rank_at more ss) (age_at ss)
    (placed b (age_at ss) (rank_at more ss v) (without v k.ranks)) =
    ranking_set b (rank_at may k.venue_sides) (rank_at more ss) (age_at k.venue_sides)
    (age_at ss) v k.ranks below
    (λ w x e. ranked_own (more w) w (venue_side_at ss w).quote x e)
    (λ w e. ap (λ (t : VenueSide). ranked_by (more w) w t.quote) (off w e)
    ∙ ap (λ t. ranked_by t w (venue_side_at k.venue_sides w).quote) (same w e))
    (λ w e. ap (λ (t : VenueSide). t.age) (off w e))
    (λ w x y c e gw gv same_age. apart v w below c (λ q. apart_from v w e q)
    (ranked_quote (more v) v (venue_side_at ss v).quote x gv)
    (ranked_quote (more w) w (venue_side_at ss w).quote y gw) same_age)
    h.ranked in
    let rank : rank_at more ss v ≡ ranked_by here v st.quote =
    ap (λ (t : VenueSide). ranked_by (more v) v t.quote) at ∙ leave in
    record {
      count = long_set k.venue_sides v st ∙ h.count;
      past = λ w c. nat_split w v (age_at ss w < m)
          (λ e. subst (λ (t : ℕ). t < m)
          (sym (ap (λ (t : VenueSide). t.age) (ap (venue_side_at ss) e ∙ at))) young)
          (λ e. (let p = h.past w c in subst (λ (t : ℕ). t < m)
          (sym (ap (λ (t : VenueSide). t.age) (off w e)))
          (omega (arith, p, l))));
      apart = apart;
      ranked = subst (λ (o : Option Best). IsRankingOf b (rank_at more ss) (age_at ss)
          (placed b (age_at ss) o (without v k.ranks))) rank ranked;
    }

-- a venue may be ranked, or may not, from now on
pub side_rechecked-is : (b : Side) (may more : ℕ → Bool) (n m : ℕ) (k : BookSide)
    (v : ℕ) (here : Bool) → v < 16
    → n ≤ m → ((w : ℕ) → nat_eq w v ≡ false → more w ≡ may w) → more v ≡ here → IsSide b may n k
    → IsSide b more m (side_rechecked b v here k)
side_rechecked-is b may more n m k v here below l same leave h =
    let ss = k.venue_sides in
    let ranked : IsRankingOf b (rank_at more ss) (age_at ss)
    (placed b (age_at ss) (rank_at more ss v) (without v k.ranks)) =
    ranking_set b (rank_at may ss) (rank_at more ss) (age_at ss) (age_at ss) v k.ranks below
    (λ w x e. ranked_own (more w) w (venue_side_at ss w).quote x e)
    (λ w e. ap (λ t. ranked_by t w (venue_side_at ss w).quote) (same w e))
    (λ w e. refl)
    (λ w x y c e gw gv same_age. h.apart v w below c (λ q. apart_from v w e q)
    (ranked_quote (more v) v (venue_side_at ss v).quote x gv)
    (ranked_quote (more w) w (venue_side_at ss w).quote y gw) same_age)
    h.ranked in
    record {
      count = h.count;
      past = λ v u. (let p = h.past v u in omega (arith, p, l));
      apart = h.apart;
      ranked = subst (λ t. IsRankingOf b (rank_at more ss) (age_at ss)
          (placed b (age_at ss) (ranked_by t v (venue_side_at ss v).quote) (without v k.ranks)))
          leave ranked;
    }

-- a venue shows this, or nothing, from now on; where that is new, its age is later than all
pub side_quoted-is : (b : Side) (may more : ℕ → Bool) (n : ℕ) (k : BookSide)
    (v : ℕ) (o : Option SideQuote)
    (here : Bool) → v < 16 → ((w : ℕ) → nat_eq w v ≡ false → more w ≡ may w)
    → ranked_by (more v) v o ≡ ranked_by here v o → ranked_by (may v) v o ≡ ranked_by (more v) v o
    → (is_same_side (venue_side_at k.venue_sides v).quote o ≡ true
    → (venue_side_at k.venue_sides v).quote ≡ o)
    → IsSide b may n k → IsSide b more (n + 1) (side_quoted b v o n here k)
side_quoted-is b may more n k v o here below same leave alike sound h =
    let st : VenueSide = record { quote = o; age = n } in
    let R : Bool → Type 0 = λ t. is_same_side (venue_side_at k.venue_sides v).quote o ≡ t
    → IsSide b more (n + 1) (cond t k (side_set b v st here k)) in
    (elim (is_same_side (venue_side_at k.venue_sides v).quote o) as R [
      | true ↦ λ e. side_waits b may more n (n + 1) k (omega arith)
          (λ w c. nat_split w v (rank_at may k.venue_sides w ≡ rank_at more k.venue_sides w)
          (λ q. subst (λ (u : ℕ). rank_at may k.venue_sides u ≡ rank_at more k.venue_sides u)
          (sym q)
          (ap (ranked_by (may v) v) (sound e) ∙ alike ∙ ap (ranked_by (more v) v) (sym (sound e))))
          (λ d. ap (λ t. ranked_by t w (venue_side_at k.venue_sides w).quote) (sym (same w d)))) h
      | false ↦ λ e. side_set-is b may more n (n + 1) k v st here below (omega arith) (omega arith)
          (λ there w c d too same_age. (let p = h.past w c in omega (arith, p, same_age)))
          same leave h
    ]) refl

-- a side that isn't what the venue showed isn't ranked yet
pub not_among : (b : Side) (k : BookSide) (v : ℕ) (st : VenueSide) (x : Best)
    → v < 16 → IsRanked b k
    → is_same_side (venue_side_at k.venue_sides v).quote st.quote ≡ false
    → ranked_by true v (venue_side_at (set k.venue_sides v st) v).quote ≡ Some x → IsIn k.ranks x
    → ⊥
not_among b k v st x below h differs e i =
    let shown : st.quote ≡ Some (record { price = x.price; size = x.size; automated = true }) =
    ap (λ (t : VenueSide). t.quote)
    (sym (venue_side_set k.venue_sides v st (omega (arith, below, h.count))))
    ∙ ranked_as true v (venue_side_at (set k.venue_sides v st) v).quote x e in
    let was : (venue_side_at k.venue_sides v).quote ≡ Some
    (record { price = x.price; size = x.size; automated = true }) =
    ap (λ (n : ℕ). (venue_side_at k.venue_sides n).quote)
    (sym (ranked_own true v (venue_side_at (set k.venue_sides v st) v).quote x e)) ∙ h.quote x i in
    let no : true ≡ false = sym (same_side_refl st.quote)
    ∙ ap (λ o. is_same_side o st.quote) (shown ∙ sym was)
    ∙ differs in cc

-- ranked anew by what was set, a side is what it is with that
pub rechecked_set : (b : Side) (k : BookSide) (v : ℕ) (st : VenueSide) (may : Bool)
    → v < length k.venue_sides
    → side_rechecked b v may (record {
      venue_sides = set k.venue_sides v st;
      ranks =
          k.ranks;
    }) ≡ side_set b v st may
    k
rechecked_set b k v st may below =
    ap (λ (t : VenueSide). record {
      venue_sides = set k.venue_sides v st;
      ranks =
          placed b (age_at (set k.venue_sides v st)) (ranked_by may v t.quote) (without v k.ranks);
    })
    (venue_side_set k.venue_sides v st below)

may_be_ranked : (m : Bool) (v : ℕ) (o : Option SideQuote) (x : Best) → ranked_by m v o ≡ Some x
    → ranked_by true v o ≡ Some x
may_be_ranked false v o x e = cc
may_be_ranked true v o x e = e

-- what is ranked anew by a cause
by_cause : (c : Cause) (b : Side) (k : BookSide) (v : ℕ) (may : Bool) (x : Best)
    → IsCausedBy c b v k
    → ranked_by may v (venue_side_at k.venue_sides v).quote ≡ Some x
    → IsCause c b (age_at k.venue_sides) x k.ranks
by_cause Quoted b k v may x h e =
    let o = (venue_side_at k.venue_sides v).quote in
    let n = h x (may_be_ranked may v o x e) in (
      subst (λ (u : ℕ). IsNewest (age_at k.venue_sides) x (without u k.ranks))
          (sym (ranked_own may v o x e)) n.0,
      n.1,
    )
by_cause Rechecked b k v may x h e =
    let o = (venue_side_at k.venue_sides v).quote in (
      h.order,
      λ y i q.
          let same : record { price = y.price; size = y.size; automated = true } ≡ record
          { price = x.price; size = x.size; automated = true } =
          some_same (sym (h.quote y i) ∙ ap (λ (u : ℕ). (venue_side_at k.venue_sides u).quote)
          (q ∙ ranked_own may v o x e) ∙ ranked_as may v o x e) in
          best_same y x q (ap (λ (t : SideQuote). t.price) same)
          (ap (λ (t : SideQuote). t.size) same),
    )

pub can_update : (order : Order) (v : ℕ) (may : Bool) (ranks : List Best) (best : Option Best)
    → v < 16
    → CanRank order.side v order.cause
    (book_side_of order.side order.venue_sides.now ranks)
    → best ≡ ranked_by may v (venue_side_at (sides_in order.side order.venue_sides.now) v).quote
    → CanUpdate order v best ranks
can_update order v may ranks best below h is =
    let k : BookSide = book_side_of order.side order.venue_sides.now ranks in
    record {
      others = h.others;
      once = h.once;
      room = h.room below;
      own = λ x e. ranked_own may v (venue_side_at k.venue_sides v).quote x (sym is ∙ e);
      caused = λ x e. by_cause order.cause order.side k v may x h.caused (sym is ∙ e);
    }
