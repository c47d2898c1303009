-- The two rules for neighbours in a list.
use Rattle.std.proofs.Common.{◌≡◌, ◌≢◌, ℕ, ◌+◌, ◌<◌, ◌≤◌, List, [], ◌∷◌, ◌++◌, length, arith, refl, ap, ◌∙◌, subst, length-append, append_assoc}
use Rattle.std.proofs.Math.Seq.{get_or-append_seam}
use Rattle.std.specs.Prelude.{AllPairs, slice_index_or}
use Rattle.feed_types.specs.declared.item.Item.{Item}
use Rattle.feed_types.specs.declared.item.Item.TheVariants.{Quote, Halt, Other, End, Skipped}
use Rattle.feed_types.specs.declared.item.Numbered.{Numbered}
use Rattle.feed_types.specs.Sequence.{Place, place_after, place_past, HasPlace, Continues}

number_after : (ordinal number : ℕ) (item : Item) → item ≢ End
    → (place_past ordinal number item).number ≡ number + 1
number_after ordinal number End more = absurd (more refl)
number_after ordinal number Other more = refl
number_after ordinal number Skipped more = refl
number_after ordinal number (Quote quote) more = refl
number_after ordinal number (Halt symbol halted) more = refl

-- an item has the number of its place, but for Skipped, whose number may be greater
pub own_number : (place number : ℕ) (item : Item) → HasPlace place number item
    → item ≢ Skipped → number ≡ place
own_number place number End at message = at
own_number place number Other at message = at
own_number place number Skipped at message = absurd (message refl)
own_number place number (Quote quote) at message = at
own_number place number (Halt symbol halted) at message = at

-- no item has a number below that of its place
own_most : (place number : ℕ) (item : Item) → HasPlace place number item → place ≤ number
own_most place number End at = omega arith
own_most place number Other at = omega arith
own_most place number Skipped at = at
own_most place number (Quote quote) at = omega arith
own_most place number (Halt symbol halted) at = omega arith

module _ (carries : ℕ → ℕ → ℕ → Item → Type 0) (ends : ℕ → ℕ → ℕ → Type 0) (venue : ℕ) where
  pub next_number : (place : Place) (xs : List Numbered) (x y : Numbered) (ys : List Numbered)
      → Continues carries ends venue place (xs ++ x ∷ y ∷ ys) → x.item ≢ End → y.item ≢ Skipped
      → y.number ≡ x.number + 1
  next_number place [] x y ys all more message = own_number _ y.number y.item all.2.0 message
      ∙ number_after place.ordinal x.number x.item more
  next_number place (w ∷ xs) x y ys all more message = next_number (place_after place w) xs x
      y ys all.2 more message

  pub number_rises : (place : Place) (xs : List Numbered) (x y : Numbered) (ys : List Numbered)
      → Continues carries ends venue place (xs ++ x ∷ y ∷ ys) → x.item ≢ End → x.number < y.number
  number_rises place [] x y ys all more =
      let most = own_most _ y.number y.item all.2.0 in
      let next = number_after place.ordinal x.number x.item more in
      omega arith
  number_rises place (w ∷ xs) x y ys all more = number_rises (place_after place w) xs x y ys all.2
      more

  pub number_after_end : (place : Place) (xs : List Numbered) (x y : Numbered) (ys : List Numbered)
      → Continues carries ends venue place (xs ++ x ∷ y ∷ ys) → x.item ≡ End
      → y.item ≢ Skipped → y.number ≡ 1
  number_after_end place [] x y ys all last message = own_number _ y.number y.item all.2.0 message
      ∙ ap (λ (i : Item). (place_past place.ordinal x.number i).number) last
  number_after_end place (w ∷ xs) x y ys all last message = number_after_end (place_after place w)
      xs x y ys all.2 last message

-- of two elements of the list, the first is related to the second
pub AllPairs-of_two : {X : Type 0} (R : X → X → Type 0) (xs : List X) (x : X) (ys : List X) (y : X)
    (zs : List X) → AllPairs R (xs ++ x ∷ ys ++ y ∷ zs) → R x y
AllPairs-of_two {X} R xs x ys y zs all =
    let whole : List X = xs ++ x ∷ ys ++ y ∷ zs in
    let i : ℕ = length xs in
    let j : ℕ = length (xs ++ x ∷ ys) in
    let below : i < j = omega (arith, length-append xs (x ∷ ys)) in
    let within : j < length whole = omega (arith, length-append (xs ++ x ∷ ys) (y ∷ zs)) in
    let at_x : slice_index_or whole i x ≡ x = ap (λ (l : List X). slice_index_or l i x)
    (append_assoc xs (x ∷ ys) (y ∷ zs)) ∙ get_or-append_seam xs x (ys ++ y ∷ zs) x in
    let at_y : slice_index_or whole j x ≡ y = get_or-append_seam (xs ++ x ∷ ys) y zs x in
    subst (λ (z : X × X). R z.0 z.1) (λ k. (at_x k, at_y k)) (all i j x below within)
