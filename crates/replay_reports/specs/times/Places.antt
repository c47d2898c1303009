-- The places of durations among the counts: one for each below 16 ns, and 16 for each power of two
-- from there on. Only private clauses cite this file.
use Rattle.std.specs.Prelude.{ℕ, ◌+◌, ◌-◌, ◌*◌, ◌/◌, ◌%◌, ◌^◌, ◌≤◌, Bool, ◌&&◌, nat_lt, nat_le, if◌then◌else◌}

-- how many durations have a place
abbrev pub step_at : ℕ → ℕ
step_at place = if nat_lt place 16 then 1 else 2 ^ (place / 16 - 1)

-- the shortest of them
abbrev pub first_at : ℕ → ℕ
first_at place = if nat_lt place 16 then place else (16 + place % 16) * 2 ^ (place / 16 - 1)

-- the longest
abbrev pub last_at : ℕ → ℕ
last_at place = first_at place + step_at place - 1

-- whether a duration has the place
abbrev pub is_at : ℕ → ℕ → Bool
is_at place duration = nat_le (first_at place) duration && nat_le duration (last_at place)

pub record IsAt (duration place : ℕ) : Type 0 where
  pub first : first_at place ≤ duration
  pub last : duration ≤ last_at place
