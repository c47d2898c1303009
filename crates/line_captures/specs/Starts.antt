-- The number of the first four of some bytes.
use Rattle.std.specs.Prelude.{ℕ, nat_lt, List, length, take, if◌then◌else◌}
use Rattle.std.specs.Int.{w32, from_be_bytes}

-- the first four of these bytes as a number, the first of them the highest; 0 where there are fewer
abbrev pub start_of : List ℕ → ℕ
start_of bytes = if nat_lt (length bytes) 4 then 0 else from_be_bytes w32 (take 4 bytes)
