-- The texts of the venues, one after the other.
use Rattle.std.proofs.Common.{◌≡◌, ◌∙◌, ℕ, zero, suc, ◌+◌, ◌<◌, ◌≤◌, List, [], ◌∷◌, ◌++◌, length, take, drop, refl, sym, ap, subst, arith, Some, append_assoc}
use Rattle.std.specs.Prelude.{slice_get, IfSome, Option}
use Rattle.feed_types.specs.declared.journal.Entry.{Entry}
use Rattle.live_feed.specs.settle.Settlements.{VenueEndState}
use Rattle.udp_listening.specs.Listening.{end_line, end_lines}
use Rattle.text_out.specs.laws.SaidTexts.{no_rest, rest_at}

-- the element at a place of a list that is long enough
pub there : {X : Type 0} (xs : List X) (n : ℕ) → n < length xs → (x : X) × (slice_get xs n ≡ Some x)
there [] n few = absurd (omega (arith, few))
there (x ∷ xs) zero few = (x, refl)
there (x ∷ xs) (suc n) few = there xs n (omega (arith, few))

pub of_some : {X : Type 0} (P : X → Type 0) (o : Option X) (x : X) → o ≡ Some x → IfSome o P → P x
of_some {X} P o x e p = subst (λ (q : Option X). IfSome q P) e p

in_front : {X : Type 0} (xs : List X) (n m : ℕ) (x : X) → n < m → slice_get xs n ≡ Some x
    → slice_get (take m xs) n ≡ Some x
in_front [] n m x few e = absurd cc
in_front (y ∷ ys) n zero x few e = absurd (omega (arith, few))
in_front (y ∷ ys) zero (suc m) x few e = e
in_front (y ∷ ys) (suc n) (suc m) x few e = in_front ys n m x (omega (arith, few)) e

-- the rest of the first sixteen, from a place on
pub rest_of : {X : Type 0} (xs : List X) (n : ℕ) (x : X) → n < 16 → slice_get xs n ≡ Some x
    → drop n (take 16 xs) ≡ x ∷ drop (n + 1) (take 16 xs)
rest_of xs n x few e = rest_at (take 16 xs) n x (in_front xs n 16 x few e)

few_taken : {X : Type 0} (xs : List X) (m : ℕ) → length (take m xs) ≤ m
few_taken [] zero = omega arith
few_taken [] (suc m) = omega arith
few_taken (x ∷ xs) zero = omega arith
few_taken (x ∷ xs) (suc m) = let e = few_taken xs m in omega arith

fewer_taken : {X : Type 0} (xs : List X) (m : ℕ) → length (take m xs) ≤ length xs
fewer_taken [] zero = omega arith
fewer_taken [] (suc m) = omega arith
fewer_taken (x ∷ xs) zero = omega arith
fewer_taken (x ∷ xs) (suc m) = let e = fewer_taken xs m in omega arith

-- nothing is left past the sixteenth, and past the last
pub none_past : {X : Type 0} (xs : List X) (n : ℕ) → 16 ≤ n → drop n (take 16 xs) ≡ []
none_past xs n many = let e = few_taken xs 16 in no_rest (take 16 xs) n (omega arith)

pub none_left : {X : Type 0} (xs : List X) (n : ℕ) → length xs ≤ n → drop n (take 16 xs) ≡ []
none_left xs n many = let e = fewer_taken xs 16 in no_rest (take 16 xs) n (omega arith)

-- one more venue's last line
pub end_more : (entries : List Entry) (vs : List VenueEndState) (n : ℕ) (v : VenueEndState)
    (old new all : List ℕ) → n < 16 → slice_get vs n ≡ Some v → new ≡ old ++ end_line entries n v
    → old ++ end_lines entries n (drop n (take 16 vs)) ≡ all → new
    ++ end_lines entries (n + 1) (drop (n + 1) (take 16 vs)) ≡ all
end_more entries vs n v old new all few here step is =
    let D = end_lines entries (n + 1) (drop (n + 1) (take 16 vs)) in
    ap (λ (t : List ℕ). t ++ D) step
    ∙ append_assoc old (end_line entries n v) D
    ∙ ap (λ (rest : List VenueEndState). old ++ end_lines entries n rest)
    (sym (rest_of vs n v few here))
    ∙ is

-- and past the sixteenth there is none
pub end_past : (entries : List Entry) (vs : List VenueEndState) (n : ℕ) (old all : List ℕ) → 16 ≤ n
    → old ++ end_lines entries n (drop n (take 16 vs)) ≡ all → old
    ++ end_lines entries (n + 1) (drop (n + 1) (take 16 vs)) ≡ all
end_past entries vs n old all many is =
    ap (λ (rest : List VenueEndState). old ++ end_lines entries (n + 1) rest)
    (none_past vs (n + 1) (omega arith))
    ∙ sym (ap (λ (rest : List VenueEndState). old ++ end_lines entries n rest)
    (none_past vs n many))
    ∙ is
