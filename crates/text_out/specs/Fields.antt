-- A field of a printed line.
use Rattle.std.specs.Prelude.{ℕ, List, ◌++◌, codes, decimal}

-- a number after a space
abbrev pub field : ℕ → List ℕ
field n = codes " " ++ decimal n
