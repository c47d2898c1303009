use Rattle.std.proofs.Common.{◌≡◌, ℕ, ◌+◌, List, [], ◌++◌, take, drop, append-nil, sym, subst}
use Rattle.std.proofs.Math.Seq.{take-add}

-- a prefix of the text and then a prefix of the rest
pub adds_more : {W : Type 0} (adds : W → List ℕ → W → Type 0)
    → ((s t u : W) (xs ys : List ℕ) → adds s xs t → adds t ys u → adds s (xs ++ ys) u)
    → (s t u : W) (text piece : List ℕ) (m n : ℕ) → piece ≡ drop m text → adds s (take m text) t
    → adds t (take n piece) u → adds s (take (m + n) text) u
adds_more {W} adds law s t u text piece m n e a b =
    subst (λ (xs : List ℕ). adds s xs u) (rw e (sym (take-add m n text)))
    (law s t u (take m text) (take n piece) a b)

-- nothing after that
pub adds_done : {W : Type 0} (adds : W → List ℕ → W → Type 0)
    → ((s t u : W) (xs ys : List ℕ) → adds s xs t → adds t ys u → adds s (xs ++ ys) u)
    → (s t u : W) (text : List ℕ) → adds s text t → adds t [] u → adds s text u
adds_done {W} adds law s t u text a b = subst (λ (xs : List ℕ). adds s xs u) (append-nil text)
    (law s t u text [] a b)
