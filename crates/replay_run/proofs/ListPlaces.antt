-- Elements of lists by their places.
use Rattle.std.proofs.Common.{◌≡◌, ℕ, zero, suc, List, [], ◌∷◌, ◌++◌, length, map, Some, None, Option, refl, ap}
use Rattle.std.specs.Prelude.{slice_get, slice_set}

pub set_twice : {X : Type 0} (xs : List X) (i : ℕ) (x y : X)
    → slice_set (slice_set xs i x) i y ≡ slice_set xs i y
set_twice [] i x y = refl
set_twice (z ∷ xs) zero x y = refl
set_twice (z ∷ xs) (suc i) x y = ap (λ (ys : List _). z ∷ ys) (set_twice xs i x y)

pub get_set_here : {X : Type 0} (xs : List X) (i : ℕ) (w x : X) → slice_get xs i ≡ Some w
    → slice_get (slice_set xs i x) i ≡ Some x
get_set_here [] i w x e = absurd cc
get_set_here (z ∷ xs) zero w x e = refl
get_set_here (z ∷ xs) (suc i) w x e = get_set_here xs i w x e

pub get_map : {X Y : Type 0} (f : X → Y) (xs : List X) (i : ℕ) (x : X) → slice_get xs i ≡ Some x
    → slice_get (map f xs) i ≡ Some (f x)
get_map f [] i x e = absurd cc
get_map f (z ∷ xs) zero x e = ap (λ (o : Option _). some_of f o) e
  where
    some_of : {X Y : Type 0} → (X → Y) → Option X → Option Y
    some_of f None = None
    some_of f (Some y) = Some (f y)
get_map f (z ∷ xs) (suc i) x e = get_map f xs i x e

pub set_map : {X Y : Type 0} (f : X → Y) (xs : List X) (i : ℕ) (x : X)
    → slice_set (map f xs) i (f x) ≡ map f (slice_set xs i x)
set_map f [] i x = refl
set_map f (z ∷ xs) zero x = refl
set_map f (z ∷ xs) (suc i) x = ap (λ (ys : List _). f z ∷ ys) (set_map f xs i x)

pub get_seam : {X : Type 0} (xs ys : List X) (x : X) → slice_get (xs ++ x ∷ ys) (length xs) ≡ Some x
get_seam [] ys x = refl
get_seam (z ∷ xs) ys x = get_seam xs ys x
