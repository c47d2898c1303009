-- The laws of the devices over memory, and of counted calls.
use Rattle.std.proofs.Common.{◌≡◌, ℕ, ◌+◌, ◌*◌, ◌≤◌, List, [], ◌++◌, length, append_assoc, append-nil, refl, sym, ◌∙◌, arith, length-append}
use Rattle.std.proofs.Math.Nat.{add-mul}
use Rattle.text_out.specs.Devices.{HeldBytes, GivesPieces}

pub gives_none : (s : HeldBytes) → GivesPieces s 0 [] s
gives_none s = record { front = refl; least = omega arith; most = omega arith; piece = refl }

pub gives_more : (s t u : HeldBytes) (m n : ℕ) (xs ys : List ℕ)
    → GivesPieces s m xs t → GivesPieces t n ys u → GivesPieces s (m + n) (xs ++ ys) u
gives_more s t u m n xs ys a b =
    let len : length (xs ++ ys) ≡ length xs + length ys = length-append xs ys in
    let all : (m + n) * s.piece ≡ m * s.piece + n * s.piece = add-mul m n s.piece in
    let most : length ys ≤ n * s.piece = rw (← a.piece) b.most in
    record {
      front = rw (a.front, b.front, append_assoc) refl;
      least = omega (arith, a.least, b.least);
      most = omega (arith, a.most);
      piece = b.piece ∙ a.piece;
    }

pub back_none : (s : List ℕ) → s ≡ s ++ []
back_none s = sym (append-nil s)

-- what two calls add at the end
pub back_more : (s t u xs ys : List ℕ) → t ≡ s ++ xs → u ≡ t ++ ys → u ≡ s ++ (xs ++ ys)
back_more s t u xs ys a b = rw (b, a, append_assoc) refl

-- no call adds nothing to the count
pub no_calls : (calls : ℕ) → calls ≡ calls + 0
no_calls calls = omega arith

-- calls after calls
pub more_calls : (before mid after m n : ℕ) → mid ≡ before + m → after ≡ mid + n
    → after ≡ before + (m + n)
more_calls before mid after m n a b = omega (arith, a, b)
