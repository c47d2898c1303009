-- Two values are the same or they aren't, and of the numbers below a bound one has a property or
-- none has.
use Rattle.std.proofs.Common.{◌≡◌, ℕ, zero, suc, ◌<◌, Bool, true, false, List, Option, Some, None, refl, sym, ap, subst, ◌∙◌, arith, inl, inr}
use Rattle.std.specs.Prelude.{◌≢◌, ◌⊎◌}
use Rattle.std.specs.Str.{bytes_eq}
use Rattle.std.specs.Cmp.Lexicographic.{bytes_decides}
use Rattle.std.proofs.lemmas.Bool.{cases_Bool, cases_eq, false≢true, true≢false}
use Rattle.feed_types.specs.declared.item.Item.{Item}
use Rattle.feed_types.specs.declared.item.Item.TheVariants as items
use Rattle.feed_types.specs.declared.item.Quote.{Quote}

pub cases_bytes : (xs ys : List ℕ) → (xs ≡ ys) ⊎ (xs ≢ ys)
cases_bytes xs ys = elim (cases_Bool (bytes_eq xs ys)) [
  | inl same ↦ inl ((bytes_decides xs ys).0 same)
  | inr other ↦ inr (λ e. false≢true (sym other ∙ (bytes_decides xs ys).1 e))
]

cases_flag : (a b : Bool) → (a ≡ b) ⊎ (a ≢ b)
cases_flag true true = inl refl
cases_flag true false = inr true≢false
cases_flag false true = inr false≢true
cases_flag false false = inl refl

-- a part is the same, or the whole differs
part : {W X : Type 0} (f : W → X) → ((x y : X) → (x ≡ y) ⊎ (x ≢ y)) → (a b : W)
    → (f a ≡ f b) ⊎ (a ≢ b)
part f tell a b =
    elim (tell (f a) (f b)) [ inl same ↦ inl same | inr other ↦ inr (λ e. other (ap f e)) ]

both : {P Q N : Type 0} → P ⊎ N → Q ⊎ N → (P × Q) ⊎ N
both (inl p) (inl q) = inl (p, q)
both (inl p) (inr n) = inr n
both (inr n) o = inr n

cases_quote : (a b : Quote) → (a ≡ b) ⊎ (a ≢ b)
cases_quote a b =
    let sizes =
    both (part (λ (q : Quote). q.bid_size) cases_eq a b)
    (part (λ (q : Quote). q.offer_size) cases_eq a b) in
    let prices =
    both (part (λ (q : Quote). q.bid_price) cases_eq a b)
    (part (λ (q : Quote). q.offer_price) cases_eq a b) in
    let flags =
    both (part (λ (q : Quote). q.bid_auto) cases_flag a b)
    (part (λ (q : Quote). q.offer_auto) cases_flag a b) in
    let symbol = part (λ (q : Quote). q.symbol) cases_bytes a b in
    elim (both (both sizes prices) (both flags symbol)) [
      | inl all ↦ inl (λ i. record {
        bid_size = all.0.0.0 i;
        offer_size = all.0.0.1 i;
        bid_price = all.0.1.0 i;
        offer_price = all.0.1.1 i;
        symbol = all.1.1 i;
        bid_auto = all.1.0.0 i;
        offer_auto = all.1.0.1 i;
      })
      | inr other ↦ inr other
    ]

quote_is : (a b : Quote) → items.Quote a ≡ items.Quote b → a ≡ b
quote_is a b e = cc

halt_is : (s t : List ℕ) (on off : Bool) → items.Halt s on ≡ items.Halt t off → (s ≡ t) × (on ≡ off)
halt_is s t on off e = (cc, cc)

pub cases_item : (a b : Item) → (a ≡ b) ⊎ (a ≢ b)
cases_item (items.Quote a) (items.Quote b) =
    elim (cases_quote a b)
    [ inl same ↦ inl (ap items.Quote same) | inr other ↦ inr (λ e. other (quote_is a b e)) ]
cases_item (items.Quote a) (items.Halt t off) = inr (λ e. cc)
cases_item (items.Quote a) items.Other = inr (λ e. cc)
cases_item (items.Quote a) items.End = inr (λ e. cc)
cases_item (items.Quote a) items.Skipped = inr (λ e. cc)
cases_item (items.Halt s on) (items.Quote b) = inr (λ e. cc)
cases_item (items.Halt s on) (items.Halt t off) = elim (cases_bytes s t) [
  | inl symbol ↦ elim (cases_flag on off) [
    | inl flag ↦ inl (λ i. items.Halt (symbol i) (flag i))
    | inr other ↦
        inr (λ e. other (halt_is s t on off e).1)
  ]
  | inr other ↦ inr (λ e. other (halt_is s t on off e).0)
]
cases_item (items.Halt s on) items.Other = inr (λ e. cc)
cases_item (items.Halt s on) items.End = inr (λ e. cc)
cases_item (items.Halt s on) items.Skipped = inr (λ e. cc)
cases_item items.Other (items.Quote b) = inr (λ e. cc)
cases_item items.Other (items.Halt t off) = inr (λ e. cc)
cases_item items.Other items.Other = inl refl
cases_item items.Other items.End = inr (λ e. cc)
cases_item items.Other items.Skipped = inr (λ e. cc)
cases_item items.End (items.Quote b) = inr (λ e. cc)
cases_item items.End (items.Halt t off) = inr (λ e. cc)
cases_item items.End items.Other = inr (λ e. cc)
cases_item items.End items.End = inl refl
cases_item items.End items.Skipped = inr (λ e. cc)
cases_item items.Skipped (items.Quote b) = inr (λ e. cc)
cases_item items.Skipped (items.Halt t off) = inr (λ e. cc)
cases_item items.Skipped items.Other = inr (λ e. cc)
cases_item items.Skipped items.End = inr (λ e. cc)
cases_item items.Skipped items.Skipped = inl refl

pub none_or_one : {X : Type 0} (o : Option X) → (o ≡ None) ⊎ ((x : X) × (o ≡ Some x))
none_or_one None = inl refl
none_or_one (Some x) = inr (x, refl)

pub one_below : (P : ℕ → Type 0) → ((k : ℕ) → P k ⊎ (P k → ⊥)) → (n : ℕ)
    → ((k : ℕ) × (k < n) × P k) ⊎ ((k : ℕ) → k < n → P k → ⊥)
one_below P each zero = inr (λ k within h. omega arith)
one_below P each (suc n) = elim (each n) [
  | inl last ↦ inl (n, omega arith, last)
  | inr not_last ↦ elim (one_below P each n) [
    | inl found ↦ let within = found.1 in inl (found.0, omega arith, found.2)
    | inr none ↦ inr (λ k within h. elim (cases_eq k n)
        [ inl is ↦ not_last (subst P is h) | inr before ↦ none k (omega arith) h ])
  ]
]
