-- Spans of time, in nanoseconds from 1970 on: from a time on, up to another one that is after it.
use Rattle.std.specs.Prelude.{ℕ, Bool, true, ◌&&◌, ◌||◌, not, nat_lt, is_some, Option, None, Some}
use Rattle.run_settings.specs.declared.time_span.TimeSpan.{TimeSpan}

abbrev pub is_from : Option ℕ → ℕ → Bool
is_from None time = true
is_from (Some from) time = not (nat_lt time from)

abbrev pub is_to : Option ℕ → ℕ → Bool
is_to None time = true
is_to (Some to) time = nat_lt time to

abbrev pub is_bounded : TimeSpan → Bool
is_bounded span = is_some span.from || is_some span.to

-- a time that isn't known lies in no span that has a beginning or an end
abbrev pub is_in_span : TimeSpan → Option ℕ → Bool
is_in_span span None = not (is_bounded span)
is_in_span span (Some time) = is_from span.from time && is_to span.to time
