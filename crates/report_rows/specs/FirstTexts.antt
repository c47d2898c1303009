-- Texts that are written one after the other.
use Rattle.std.specs.Prelude.{ℕ, zero, suc, List, [], ◌++◌}

-- the first texts, this many, of those at places
abbrev pub first_texts : (ℕ → List ℕ) → ℕ → List ℕ
first_texts text zero = []
first_texts text (suc n) = first_texts text n ++ text n
