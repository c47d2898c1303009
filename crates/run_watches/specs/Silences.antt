-- When it is told that a line has brought nothing, and that it has brought something again.
use Rattle.std.specs.Prelude.{ℕ, nat_le, Bool, true, false, Option, Some, None, if◌then◌else◌}
use Rattle.run_watches.specs.declared.line_silence.Silence.{Silence}
use Rattle.run_watches.specs.declared.line_silence.Silence.TheVariants.{Begun, Over}

-- What is told of a line that has been silent for this long: where a silence is told after some
-- milliseconds, that one has begun that has lasted for these and wasn't told, and that one is over
-- that was told.
abbrev pub silence_told : (after : Option ℕ) → (told : Bool) → (silent : ℕ) → Option Silence
silence_told None told silent = None
silence_told (Some after) true silent = if nat_le after silent then None else Some Over
silence_told (Some after) false silent = if nat_le after silent then Some (Begun after) else None

-- whether a silence is told then
abbrev pub is_told_then : Bool → Option Silence → Bool
is_told_then told None = told
is_told_then told (Some (Begun ms)) = true
is_told_then told (Some Over) = false
