-- Counts that stay at 2^64 - 1 once they are there.
use Rattle.std.specs.Prelude.{ℕ, zero, suc, ◌+◌, min}

-- a count after this many more
abbrev pub count_after : ℕ → ℕ → ℕ
count_after count zero = count
count_after count (suc more) = min (count + suc more) 18446744073709551615
