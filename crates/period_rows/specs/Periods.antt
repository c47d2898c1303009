-- The periods of the clock. A period begins at a whole multiple of its length in nanoseconds from
-- 1970 on.
use Rattle.std.specs.Prelude.{ℕ, ◌-◌, ◌%◌}

-- when the period of a time began
abbrev pub period_begin : ℕ → ℕ → ℕ
period_begin length time = time - time % length
