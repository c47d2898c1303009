-- Sums over a map's keys, after an edit.
use Rattle.std.proofs.Common.{◌≡◌, ℕ, ◌+◌, ◌≤◌, cond, List, [], ◌∷◌, refl, sym, ap, ◌∙◌, arith, inl, inr}
use Rattle.std.specs.Prelude.{nat_eq, sum_by, IsPermutation, IsSome, Option, Some, None}
use Rattle.std.proofs.lemmas.List.Sorted.{sum_by-IsPermutation}
use Rattle.std.specs.Map.{keys_of, remove_entry}
use Rattle.std.proofs.lemmas.Bool.{cases_eq, eq-eqb, ne_eqb}
use Rattle.std.proofs.lemmas.Option.{none-some}
use Rattle.std.proofs.lemmas.List.Sums.{sum_by-cons}
use Rattle.itch_book.specs.declared.order.Order.{Order}
use Rattle.itch_book.specs.Orders.{live_order}

pub sum_keys : (f : ℕ → ℕ) (es : List (ℕ × Order))
    → sum_by f (keys_of es) ≡ sum_by (λ (e : ℕ × Order). f e.0) es
sum_keys f [] = omega arith
sum_keys f (e ∷ es) =
    omega (
      arith,
      sum_by-cons f e.0 (keys_of es),
      sum_by-cons (λ (x : ℕ × Order). f x.0) e es,
      sum_keys f es,
    )

-- a key that is there weighs in the sum
pub key_counts : (f : ℕ → ℕ) (es : List (ℕ × Order)) (reference : ℕ) (order : Order)
    → live_order es reference ≡ Some order → f reference ≤ sum_by f (keys_of es)
key_counts f [] reference order there = absurd (none-some order there)
key_counts f (e ∷ es) reference order there = elim (cases_eq reference e.0) [
  | inl same ↦ omega (arith, sum_by-cons f e.0 (keys_of es), ap f same)
  | inr apart ↦ omega (
    arith,
    sum_by-cons f e.0 (keys_of es),
    key_counts f es reference order
        (ap (λ b. cond b (Some e.1) (live_order es reference))
        (sym (ne_eqb reference e.0 apart)) ∙ there),
  )
]

pub sum_keys-removed : (f : ℕ → ℕ) (es : List (ℕ × Order)) (reference : ℕ) (order : Order)
    → live_order es reference ≡ Some order
    → sum_by f (keys_of (remove_entry (nat_eq reference) es)) + f reference ≡ sum_by f (keys_of es)
sum_keys-removed f [] reference order there = absurd (none-some order there)
sum_keys-removed f (e ∷ es) reference order there = elim (cases_eq reference e.0) [
  | inl same ↦ (
      let gone = ap (λ b. cond b es (e ∷ remove_entry (nat_eq reference) es))
      (eq-eqb reference e.0 same) in
      omega (
        arith,
        ap (λ (xs : List (ℕ × Order)). sum_by f (keys_of xs)) gone,
        sum_by-cons f e.0 (keys_of es),
        ap f same,
      )
      )
  | inr apart ↦ (
      let stays = ap (λ b. cond b es (e ∷ remove_entry (nat_eq reference) es))
      (ne_eqb reference e.0 apart) in
      omega (
        arith,
        ap (λ (xs : List (ℕ × Order)). sum_by f (keys_of xs)) stays,
        sum_by-cons f e.0 (keys_of es),
        sum_by-cons f e.0 (keys_of (remove_entry (nat_eq reference) es)),
        sum_keys-removed f es reference order
            (ap (λ b. cond b (Some e.1) (live_order es reference))
            (sym (ne_eqb reference e.0 apart)) ∙ there),
      )
      )
]

pub sum_keys-alike : (f : ℕ → ℕ) (es fs : List (ℕ × Order)) → IsPermutation es fs
    → sum_by f (keys_of fs) ≡ sum_by f (keys_of es)
sum_keys-alike f es fs alike =
    sum_keys f fs ∙ sum_by-IsPermutation (λ (e : ℕ × Order). f e.0) es fs alike
    ∙ sym (sum_keys f es)

pub sum_keys-put : (f : ℕ → ℕ) (es fs : List (ℕ × Order)) (reference : ℕ) (order : Order)
    → IsPermutation ((reference, order) ∷ es) fs
    → sum_by f (keys_of fs) ≡ sum_by f (keys_of es) + f reference
sum_keys-put f es fs reference order alike =
    omega (
      arith,
      sum_keys-alike f ((reference, order) ∷ es) fs alike,
      sum_by-cons f reference (keys_of es),
    )

gone_by : (f : ℕ → ℕ) (es : List (ℕ × Order)) (reference : ℕ) (found : Option Order)
    → live_order es reference ≡ found → IsSome found
    → sum_by f (keys_of (remove_entry (nat_eq reference) es)) + f reference ≡ sum_by f (keys_of es)
gone_by f es reference None e some = cc
gone_by f es reference (Some order) e some = sum_keys-removed f es reference order e

pub sum_keys-gone : (f : ℕ → ℕ) (es : List (ℕ × Order)) (reference : ℕ)
    → IsSome (live_order es reference)
    → sum_by f (keys_of (remove_entry (nat_eq reference) es)) + f reference ≡ sum_by f (keys_of es)
sum_keys-gone f es reference some = gone_by f es reference (live_order es reference) refl some
