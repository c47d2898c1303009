-- A message whose fields were written one after the other.
use Rattle.std.proofs.Common.{◌≡◌, ℕ, List, ◌++◌, length, take, sym, ◌∙◌, arith}
use Rattle.std.proofs.lemmas.List.{take_all}

-- a front as long as the message is the message
pub whole : (n : ℕ) (message bytes : List ℕ) → length message ≡ n
    → take n message ≡ bytes → message ≡ bytes
whole n message bytes len front = sym (take_all n message (omega arith)) ∙ front

-- the next field
pub next_field : (n k : ℕ) (old new field front part : List ℕ) → take k new ≡ take n old ++ field
    → take n old ≡ front → field ≡ part → take k new ≡ front ++ part
next_field n k old new field front part e h p = cc
