-- One best of a book side, and ranks by prices.
use Rattle.std.proofs.Common.{◌≡◌, ℕ, ◌+◌, ◌*◌, ◌-◌, ◌%◌, refl, sym, ap, ◌∙◌, arith, cond, inl, inr}
use Rattle.std.specs.Prelude.{Option, Some, None}
use Rattle.std.proofs.lemmas.Bool.{cases_order, eq-eqb, ne_eqb}
use Rattle.itch_book.specs.declared.level.Level.{Level}
use Rattle.itch_book.specs.Bests.{IsBestLevel, IsBestOf, whole_lots}
use Rattle.itch_book.specs.Orders.{book_rank}

level-eq : (x y : Level) → x.rank ≡ y.rank → x.shares ≡ y.shares → x ≡ y
level-eq x y a b = λ i. record { rank = a i; shares = b i }

one_level : (lot : ℕ) (depth : ℕ → ℕ) (x y : Level) → IsBestLevel lot depth x
    → IsBestLevel lot depth y → x ≡ y
one_level lot depth x y a b = elim (cases_order x.rank y.rank) [
  | inl same ↦ level-eq x y same
      (a.shares ∙ ap (λ (r : ℕ). whole_lots lot (depth r)) same ∙ sym b.shares)
  | inr apart ↦ elim apart [
    | inl less ↦ absurd (omega (arith, a.best y.rank less, b.reaches))
    | inr more ↦ absurd (omega (arith, b.best x.rank more, a.reaches))
  ]
]

pub one_best_of : (lot : ℕ) (depth : ℕ → ℕ) (a b : Option Level) → IsBestOf lot depth a
    → IsBestOf lot depth b → a ≡ b
one_best_of lot depth None None x y = refl
one_best_of lot depth None (Some b) x y = absurd (omega (arith, x b.rank, y.reaches))
one_best_of lot depth (Some a) None x y = absurd (omega (arith, y a.rank, x.reaches))
one_best_of lot depth (Some a) (Some b) x y = ap (λ l. Some l) (one_level lot depth a b x y)

pub rank_bid : (place price : ℕ) → book_rank (place * 2) price ≡ price
rank_bid place price =
    ap (λ b. cond b price (4294967295 - price)) (eq-eqb ((place * 2) % 2) 0 (omega arith))

pub rank_offer : (place price : ℕ) → book_rank (place * 2 + 1) price ≡ 4294967295 - price
rank_offer place price =
    ap (λ b. cond b price (4294967295 - price))
    (ne_eqb ((place * 2 + 1) % 2) 0 (λ e. omega (arith, e)))
