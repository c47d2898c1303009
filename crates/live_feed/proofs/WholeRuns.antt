-- The parts of a feed's whole life, one after the other.
use Rattle.std.proofs.Common.{◌≡◌, suc, List, [], ◌∷◌, length, refl, ap, subst}
use Rattle.std.specs.Prelude.{Result, Ok, Err, IfOk, OnOk}
use Rattle.live_feed.specs.run.Runs.{Pairwise}

-- what is so of the first and the last of three, where it is so by the second
pub pairwise_two : {A B C : Type 0} (R : A → B → Type 0) (Q : B → C → Type 0) (P : A → C → Type 0)
    → ((x : A) (y : B) (z : C) → R x y → Q y z → P x z) → (xs : List A) (ys : List B) (zs : List C)
    → Pairwise R xs ys → Pairwise Q ys zs → Pairwise P xs zs
pairwise_two R Q P step [] [] [] first second = tt
pairwise_two R Q P step [] [] (z ∷ zs) first second = absurd second
pairwise_two R Q P step [] (y ∷ ys) zs first second = absurd first
pairwise_two R Q P step (x ∷ xs) [] zs first second = absurd first
pairwise_two R Q P step (x ∷ xs) (y ∷ ys) [] first second = absurd second
pairwise_two R Q P step (x ∷ xs) (y ∷ ys) (z ∷ zs) first second =
    (step x y z first.0 second.0, pairwise_two R Q P step xs ys zs first.1 second.1)

pub pairwise_length : {A B : Type 0} (R : A → B → Type 0) (xs : List A) (ys : List B)
    → Pairwise R xs ys → length xs ≡ length ys
pairwise_length R [] [] pairs = refl
pairwise_length R [] (y ∷ ys) pairs = absurd pairs
pairwise_length R (x ∷ xs) [] pairs = absurd pairs
pairwise_length R (x ∷ xs) (y ∷ ys) pairs = ap (λ n. suc n) (pairwise_length R xs ys pairs.1)

-- what follows of a result's value from two facts of it
pub both_ok : {A E : Type 0} {P Q R : A → Type 0} → ((x : A) → P x → Q x → R x) → (r : Result A E)
    → IfOk r P → IfOk r Q → IfOk r R
both_ok f (Ok x) p q = f x p q
both_ok f (Err e) p q = tt

-- what is so of a result's value, where the value is known
pub at_ok : {A E : Type 0} (P : A → Type 0) (r : Result A E) (x : A) → r ≡ Ok x → IfOk r P → P x
at_ok {A} {E} P r x is p = subst (λ (q : Result A E). IfOk q P) is p

-- what is so where there is a value
pub so_at_ok : {A E X : Type 0} (r : Result A E) (x : A) → r ≡ Ok x → OnOk r X → X
so_at_ok {A} {E} {X} r x is p = subst (λ (q : Result A E). OnOk q X) is p
