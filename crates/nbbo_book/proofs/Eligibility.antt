-- What is ranked is what is eligible, and ranks are a ranking.
use Rattle.std.proofs.Common.{ℕ, zero, suc, ◌<◌, ◌≡◌, List, [], ◌∷◌, Bool, true, false, not, refl, ap, ◌∙◌, subst, arith, length, get_or, cond, nat_lt, Option, Some, None, inl, inr}
use Rattle.std.specs.Prelude.{◌&&◌}
use Rattle.std.specs.List.{AllByRecursion, Contains}
use Rattle.feed_types.specs.declared.journal.Entry.{Entry}
use Rattle.feed_types.specs.declared.line.Side.{Side}
use Rattle.feed_types.specs.declared.national.Best.{Best}
use Rattle.nbbo_book.specs.declared.side_quote.SideQuote.{SideQuote}
use Rattle.nbbo_book.specs.Sides.{side_of, age_of}
use Rattle.nbbo_book.specs.Eligible.{IsEligible, is_protected, ranked_by, may_rank, eligible_of, is_self_helped, is_halted}
use Rattle.nbbo_book.specs.Nationals.{beats, IsRanking}
use Rattle.nbbo_book.specs.Ranks.{InRank, IsIn, IsRankingOf}
use Rattle.nbbo_book.proofs.Ranking.{some_same}
use Rattle.nbbo_book.proofs.EntryEffects.{and_left, and_right}

-- what a venue is ranked with is what it shows, and that counts
record Ranked (m : Bool) (o : Option SideQuote) (x : Best) : Type 0 where
  may : m ≡ true
  quote : SideQuote
  is : o ≡ Some quote
  is_protected : is_protected quote ≡ true
  price : quote.price ≡ x.price
  size : quote.size ≡ x.size

ranked_with : (m : Bool) (v : ℕ) (o : Option SideQuote) (x : Best)
    → ranked_by m v o ≡ Some x → Ranked m o x
ranked_with false v o x e = cc
ranked_with true v None x e = cc
ranked_with true v (Some quote) x e =
    let R : Bool → Type 0 = λ t. is_protected quote ≡ t
    → cond t (Some (record { venue = v; price = quote.price; size = quote.size })) None ≡ Some x
    → Ranked true (Some quote) x in
    (elim (is_protected quote) as R [
      | true ↦ λ p k. record {
        may = refl;
        quote = quote;
        is = refl;
        is_protected = p;
        price =
            ap (λ (y : Best). y.price) (some_same k);
        size = ap (λ (y : Best). y.size) (some_same k);
      }
      | false ↦ λ p k. cc
    ]) refl e

lt_of : (a b : ℕ) → nat_lt a b ≡ true → a < b
lt_of a b h = grind (arith, h)

lt_is : (a b : ℕ) → a < b → nat_lt a b ≡ true
lt_is a b h = grind (arith, h)

not_true : (a : Bool) → not a ≡ true → a ≡ true → ⊥
not_true true h e = (let no : false ≡ true = h in cc)
not_true false h e = (let no : false ≡ true = e in cc)

is_not : (a : Bool) → (a ≡ true → ⊥) → not a ≡ true
is_not true h = absurd (h refl)
is_not false h = refl

pub eligible_told : (es : List Entry) (s : List ℕ) (b : Side) (x : Best) → x.venue < 16
    → eligible_of es s b x.venue ≡ Some x → IsEligible es s b x
eligible_told es s b x below e =
    let r = ranked_with (may_rank es x.venue s) x.venue (side_of es x.venue s b) x e in
    let flag : r.quote.automated ≡ true =
    and_left r.quote.automated (nat_lt 0 r.quote.price && nat_lt 0 r.quote.size) r.is_protected in
    let sums : (nat_lt 0 r.quote.price && nat_lt 0 r.quote.size) ≡ true =
    and_right r.quote.automated (nat_lt 0 r.quote.price && nat_lt 0 r.quote.size) r.is_protected in
    record {
      venue = below;
      automated = r.is
          ∙ ap Some
          (ap (λ t. record { price = t; size = r.quote.size; automated = r.quote.automated })
          r.price ∙ ap (λ t. record { price = x.price; size = t; automated = r.quote.automated })
          r.size
          ∙ ap (λ t. record { price = x.price; size = x.size; automated = t }) flag);
      priced = subst (λ (n : ℕ). 0 < n) r.price
          (lt_of 0 r.quote.price (and_left (nat_lt 0 r.quote.price) (nat_lt 0 r.quote.size) sums));
      sized = subst (λ (n : ℕ). 0 < n) r.size
          (lt_of 0 r.quote.size (and_right (nat_lt 0 r.quote.price) (nat_lt 0 r.quote.size) sums));
      no_self_help = not_true (is_self_helped es x.venue)
          (and_left (not (is_self_helped es x.venue)) (not (is_halted es x.venue s)) r.may);
      no_halt = not_true (is_halted es x.venue s)
          (and_right (not (is_self_helped es x.venue)) (not (is_halted es x.venue s)) r.may);
    }

pub eligible_is : (es : List Entry) (s : List ℕ) (b : Side) (x : Best) → IsEligible es s b x
    → eligible_of es s b x.venue ≡ Some x
eligible_is es s b x h =
    ap (λ o. ranked_by (may_rank es x.venue s) x.venue o) h.automated
    ∙ ap (λ t. ranked_by (t && not (is_halted es x.venue s)) x.venue
    (Some (record { price = x.price; size = x.size; automated = true })))
    (is_not (is_self_helped es x.venue) h.no_self_help)
    ∙ ap (λ t. ranked_by t x.venue
    (Some (record { price = x.price; size = x.size; automated = true })))
    (is_not (is_halted es x.venue s) h.no_halt)
    ∙ ap (λ t. cond (t && nat_lt 0 x.size)
    (Some (record { venue = x.venue; price = x.price; size = x.size })) None)
    (lt_is 0 x.price h.priced)
    ∙ ap (λ t. cond t (Some (record { venue = x.venue; price = x.price; size = x.size })) None)
    (lt_is 0 x.size h.sized)

contains_in : (xs : List Best) (x : Best) (k : ℕ) → k < length xs → get_or xs k x ≡ x → IsIn xs x
contains_in [] x k l e = absurd (omega (arith, l))
contains_in (y ∷ ys) x zero l e = inl e
contains_in (y ∷ ys) x (suc k) l e = inr (contains_in ys x k (omega (arith, l)) e)

in_contains : (xs : List Best) (x : Best) → IsIn xs x → Contains xs x
in_contains [] x i = absurd i
in_contains (y ∷ ys) x i = elim i [
  | inl e ↦ (zero, omega arith, e)
  | inr k ↦ (let c = in_contains ys x k in (suc c.0, omega (arith, c.1), c.2))
]

best_at : (P : Best → Type 0) (xs : List Best) (k : ℕ) (d : Best)
    → k < length xs → AllByRecursion P xs
    → P (get_or xs k d)
best_at P [] k d l h = absurd (omega (arith, l))
best_at P (x ∷ xs) zero d l h = h.0
best_at P (x ∷ xs) (suc k) d l h = best_at P xs k d (omega (arith, l)) h.1

in_pairs : (b : Side) (f : ℕ → ℕ) (xs : List Best) → InRank b f xs → (i j : ℕ) (d : Best)
    → i < j → j < length xs
    → beats b f (get_or xs i d) (get_or xs j d) ≡ true
in_pairs b f [] h i j d l m = absurd (omega (arith, m))
in_pairs b f (x ∷ xs) h i zero d l m = absurd (omega (arith, l))
in_pairs b f (x ∷ xs) h zero (suc j) d l m = best_at (λ y. beats b f x y ≡ true) xs j
    d (omega (arith, m)) h.0
in_pairs b f (x ∷ xs) h (suc i) (suc j) d l m = in_pairs b f xs h.1 i j d
    (omega (arith, l)) (omega (arith, m))

-- ranks of the eligible sides by their ages are a ranking
pub ranking_is : (es : List Entry) (s : List ℕ) (b : Side) (xs : List Best)
    → IsRankingOf b (eligible_of es s b) (λ v. age_of es v s b) xs → IsRanking es s b xs
ranking_is es s b xs h = record {
  members = λ x. (
    (λ c. (let k = (h.members x).0 (contains_in xs x c.0 c.1 c.2)
        in eligible_told es s b x k.0 k.1)),
    (λ e. in_contains xs x ((h.members x).1 (e.venue, eligible_is es s b x e))),
  );
  order = λ i j d l m. in_pairs b (λ v. age_of es v s b) xs h.order i j d l m;
}
