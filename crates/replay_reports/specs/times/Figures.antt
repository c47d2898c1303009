-- Figures of what is counted in 64 bits.
use Rattle.std.specs.Prelude.{ℕ, ◌/◌, List, [], ◌∷◌, length, max, min, sum}

-- a figure that stays at 2^64 - 1 once it is there
abbrev pub capped : ℕ → ℕ
capped n = min n 18446744073709551615

-- the longest of some durations, 0 where there is none
abbrev pub longest_of : List ℕ → ℕ
longest_of [] = 0
longest_of (duration ∷ durations) = max duration (longest_of durations)

-- the mean of some durations, rounded down, 0 where there is none
abbrev pub mean_of : List ℕ → ℕ
mean_of durations = capped (sum durations) / max (capped (length durations)) 1
