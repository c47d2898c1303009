-- Packets that carry the items of a session are of the session.
use Rattle.std.proofs.Common.{◌≡◌, ◌⊎◌, ℕ, zero, suc, ◌+◌, ◌-◌, ◌<◌, ◌≤◌, List, [], ◌∷◌, ◌++◌, length, map, refl, sym, ap, subst, ◌∙◌, inl, inr, arith, length-append}
use Rattle.std.specs.Prelude.{Some, slice_get, slice_index_or}
use Rattle.std.specs.List.{flat_map, AllByRecursion}
use Rattle.feed_types.specs.declared.item.Item.{Item}
use Rattle.feed_types.specs.declared.item.Item.TheVariants as items
use Rattle.feed_types.specs.declared.item.Numbered.{Numbered}
use Rattle.feed_types.specs.Sessions.{numbered_from, end_item}
use Rattle.mold_packet.specs.declared.packet.Kind.{Kind}
use Rattle.mold_packet.specs.declared.packet.Kind.TheVariants as kinds
use Rattle.mold_packet.specs.Content.{Content}
use Rattle.quote_payload.specs.Payload.{item_of}
use Rattle.quote_payload.specs.ItemLaws.{item_of-never_end}
use Rattle.line_arbiter.specs.OfSession.{IsOfSession}
use Rattle.normalising.specs.Carried.{BeatsWithin, IsMessageItem, end_of_kind, items_carried}

-- an item of a row with its number, or the end after it
record InRow (first : ℕ) (its : List Item) (e : Numbered) : Type 0 where
  message : (e.item ≡ items.End → ⊥)
      → (first ≤ e.number) × (slice_get its (e.number - first) ≡ Some e.item)
  end : e.item ≡ items.End → e.number ≡ first + length its

later : (first : ℕ) (x : Item) (xs : List Item) (e : Numbered) → InRow (first + 1) xs e
    → InRow first (x ∷ xs) e
later first x xs e r = record {
  message = λ other. let m = r.message other in (
    omega (arith, m.0),
    ap (slice_get (x ∷ xs)) (shifted e.number (omega (arith, m.0))) ∙ m.1,
  );
  end = λ is. r.end is ∙ moved (length xs);
}
  where
    shifted : (n : ℕ) → first + 1 ≤ n → n - first ≡ suc (n - (first + 1))
    shifted n h = omega (arith, h)

    moved : (k : ℕ) → first + 1 + k ≡ first + suc k
    moved k = omega arith

all_later : (first : ℕ) (x : Item) (xs : List Item) (es : List Numbered)
    → AllByRecursion (InRow (first + 1) xs) es → AllByRecursion (InRow first (x ∷ xs)) es
all_later first x xs [] a = tt
all_later first x xs (e ∷ es) a = (later first x xs e a.0, all_later first x xs es a.1)

in_row : (first : ℕ) (its : List Item) (ends : List Numbered)
    → AllByRecursion IsMessageItem its
    → (ends ≡ []) ⊎ (ends ≡ end_item (first + length its) ∷ [])
    → AllByRecursion (InRow first its) (numbered_from first its ++ ends)
in_row first [] ends each (inl none) =
    subst (λ (z : List Numbered). AllByRecursion (InRow first []) z) (sym none) tt
in_row first [] ends each (inr one) =
    subst (λ (z : List Numbered). AllByRecursion (InRow first []) z) (sym one)
    (record { message = λ other. absurd (other refl); end = λ is. refl }, tt)
in_row first (x ∷ xs) ends each end = (
  record {
    message = λ other. (omega arith, ap (slice_get (x ∷ xs)) (none first));
    end = λ is. absurd (each.0.no_end is);
  },
  all_later first x xs (numbered_from (first + 1) xs ++ ends)
      (in_row (first + 1) xs ends each.1 (shift end)),
)
  where
    none : (n : ℕ) → n - n ≡ 0
    none n = omega arith

    moved : (k : ℕ) → first + suc k ≡ first + 1 + k
    moved k = omega arith

    shift : (ends ≡ []) ⊎ (ends ≡ end_item (first + suc (length xs)) ∷ [])
        → (ends ≡ []) ⊎ (ends ≡ end_item (first + 1 + length xs) ∷ [])
    shift (inl h) = inl h
    shift (inr h) = inr (h ∙ ap (λ (k : ℕ). end_item k ∷ []) (moved (length xs)))

all_front : (P : Numbered → Type 0) (xs ys : List Numbered) → AllByRecursion P (xs ++ ys)
    → AllByRecursion P xs
all_front P [] ys a = tt
all_front P (x ∷ xs) ys a = (a.0, all_front P xs ys a.1)

all_back : (P : Numbered → Type 0) (xs ys : List Numbered) → AllByRecursion P (xs ++ ys)
    → AllByRecursion P ys
all_back P [] ys a = a
all_back P (x ∷ xs) ys a = all_back P xs ys a.1

at_place : (P : Numbered → Type 0) (n : ℕ) (ms : List (List ℕ)) (k : ℕ) → k < length ms
    → AllByRecursion P (numbered_from n (map item_of ms))
    → P (record { number = n + k; item = item_of (slice_index_or ms k []) })
at_place P n [] k lt a = absurd (omega (arith, lt))
at_place P n (m ∷ ms) zero lt a =
    subst (λ (j : ℕ). P (record { number = j; item = item_of m })) (plus_none n) a.0
  where
    plus_none : (j : ℕ) → j ≡ j + 0
    plus_none j = omega arith
at_place P n (m ∷ ms) (suc k) lt a =
    subst (λ (j : ℕ). P (record { number = j; item = item_of (slice_index_or ms k []) }))
    (moved n k) (at_place P (n + 1) ms k (omega (arith, lt)) a.1)
  where
    moved : (a b : ℕ) → a + 1 + b ≡ a + suc b
    moved a b = omega arith

at_end : (P : Numbered → Type 0) (kind : Kind) (n : ℕ) → kind ≡ kinds.End
    → AllByRecursion P (end_of_kind kind n) → P (end_item n)
at_end P kinds.Messages n e a = absurd cc
at_end P kinds.Heartbeat n e a = absurd cc
at_end P kinds.End n e a = a.0

sent : (name : List ℕ) (its : List Item) (p : Content) → p.session ≡ name
    → AllByRecursion (InRow 1 its) (items_carried p) → BeatsWithin (length its) p
    → IsOfSession (record { name = name; items = its }) p
sent name its p is a beats = record {
  name = is;
  messages = λ k lt.
      let r = at_place (InRow 1 its) p.number p.messages k lt
      (all_front (InRow 1 its) (numbered_from p.number (map item_of p.messages))
      (end_of_kind p.kind p.number) a) in
      (r.message (item_of-never_end (slice_index_or p.messages k []))).1;
  heartbeat = beats;
  end = λ end.
      let r = at_end (InRow 1 its) p.kind p.number end
      (all_back (InRow 1 its) (numbered_from p.number (map item_of p.messages))
      (end_of_kind p.kind p.number) a) in
      r.end refl ∙ one_more (length its);
}
  where
    one_more : (k : ℕ) → 1 + k ≡ k + 1
    one_more k = omega arith

all_sent : (name : List ℕ) (its : List Item) (ps : List Content)
    → AllByRecursion (λ p. p.session ≡ name) ps
    → AllByRecursion (InRow 1 its) (flat_map items_carried ps)
    → AllByRecursion (BeatsWithin (length its)) ps
    → AllByRecursion (IsOfSession (record { name = name; items = its })) ps
all_sent name its [] names a beats = tt
all_sent name its (p ∷ ps) names a beats = (
  sent name its p names.0 (all_front (InRow 1 its) (items_carried p) (flat_map items_carried ps) a)
      beats.0,
  all_sent name its ps names.1
      (all_back (InRow 1 its) (items_carried p) (flat_map items_carried ps) a) beats.1,
)

-- a row of later numbers, after items that nothing carries
get_past : (pad its : List Item) (k : ℕ)
    → slice_get (pad ++ its) (length pad + k) ≡ slice_get its k
get_past [] its k = ap (slice_get its) (none k)
  where
    none : (n : ℕ) → 0 + n ≡ n
    none n = omega arith
get_past (x ∷ pad) its k =
    ap (slice_get (x ∷ (pad ++ its))) (moved (length pad) k) ∙ get_past pad its k
  where
    moved : (n m : ℕ) → suc n + m ≡ suc (n + m)
    moved n m = omega arith

in_padded : (first : ℕ) (pad its : List Item) (e : Numbered) → length pad + 1 ≡ first
    → InRow first its e → InRow 1 (pad ++ its) e
in_padded first pad its e len r = record {
  message = λ other. let m = r.message other in (
    omega (arith, m.0, len),
    ap (slice_get (pad ++ its)) (place e.number (length pad) m.0 len)
        ∙ get_past pad its (e.number - first) ∙ m.1,
  );
  end = λ is. r.end is ∙ past (length pad) (length its) (length (pad ++ its)) len
      (length-append pad its);
}
  where
    place : (n k : ℕ) → first ≤ n → k + 1 ≡ first → n - 1 ≡ k + (n - first)
    place n k from is = omega arith

    past : (k n all : ℕ) → k + 1 ≡ first → all ≡ k + n → first + n ≡ 1 + all
    past k n all is sum = omega arith

all_padded : (first : ℕ) (pad its : List Item) (es : List Numbered) → length pad + 1 ≡ first
    → AllByRecursion (InRow first its) es → AllByRecursion (InRow 1 (pad ++ its)) es
all_padded first pad its [] len a = tt
all_padded first pad its (e ∷ es) len a =
    (in_padded first pad its e len a.0, all_padded first pad its es len a.1)

-- packets that carry a row are of the session of its items
pub row_sent : (first : ℕ) (name : List ℕ) (pad its : List Item) (ends : List Numbered)
    (ps : List Content) → length pad + 1 ≡ first → AllByRecursion IsMessageItem its
    → (ends ≡ []) ⊎ (ends ≡ end_item (first + length its) ∷ [])
    → AllByRecursion (λ p. p.session ≡ name) ps
    → flat_map items_carried ps ≡ numbered_from first its ++ ends
    → AllByRecursion (BeatsWithin (length (pad ++ its))) ps
    → AllByRecursion (IsOfSession (record { name = name; items = pad ++ its })) ps
row_sent first name pad its ends ps len each end names carried beats =
    all_sent name (pad ++ its) ps names
    (all_padded first pad its (flat_map items_carried ps) len
    (subst (λ (z : List Numbered). AllByRecursion (InRow first its) z) (sym carried)
    (in_row first its ends each end)))
    beats
