-- A count as a u64 shows it.
use Rattle.std.specs.Prelude.{ℕ, min}

-- it stays at its greatest value once it is there
abbrev pub shown : ℕ → ℕ
shown n = min n 18446744073709551615
