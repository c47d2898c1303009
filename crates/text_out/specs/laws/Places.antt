-- Bytes that were placed one after the other, and a prefix of what was placed.
use Rattle.std.proofs.Common.{◌≡◌, ℕ, ◌+◌, ◌≤◌, List, ◌++◌, length, take, sym, ap, subst, ◌∙◌, arith, append_assoc, length-append, length-take-le}
use Rattle.std.proofs.Math.Seq.{take-append-add}
use Rattle.std.proofs.lemmas.List.{take-take}
use Rattle.text_out.specs.Placing.{Placed}

-- under another spelling
pub placed_as : (old new xs ys : List ℕ) (at end : ℕ) → Placed old new at xs end → xs ≡ ys
    → Placed old new at ys end
placed_as old new xs ys at end h e = subst (λ (s : List ℕ). Placed old new at s end) e h

-- one piece after another
pub placed_more : (old mid new xs ys : List ℕ) (at here end : ℕ) → Placed old mid at xs here
    → Placed mid new here ys end → Placed old new at (xs ++ ys) end
placed_more old mid new xs ys at here end first next = record {
  front = next.front ∙ ap (λ (s : List ℕ). s ++ ys) first.front ∙ append_assoc _ xs ys;
  moved = let e = length-append xs ys in let f = first.moved in let n = next.moved in omega arith;
  len = next.len ∙ first.len;
}

-- a prefix of what was placed
pub placed_front : (old new xs : List ℕ) (at end n : ℕ) → Placed old new at xs end → at ≤ length old
    → n ≤ length xs → Placed old new at (take n xs) (at + n)
placed_front old new xs at end n h room few =
    let l : length (take at old) ≡ at = length-take-le at old room in
    let m = h.moved in
    record {
      front = sym (take-take (at + n) end new (omega arith))
          ∙ ap (λ (s : List ℕ). take (at + n) s) h.front
          ∙ ap (λ (k : ℕ). take (k + n) (take at old ++ xs)) (sym l)
          ∙ take-append-add (take at old) xs n;
      moved = ap (λ (k : ℕ). at + k) (sym (length-take-le n xs few));
      len = h.len;
    }
