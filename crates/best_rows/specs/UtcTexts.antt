-- Times as dates with a time of day, in UTC.
use Rattle.std.specs.Prelude.{ℕ, zero, suc, ◌+◌, ◌/◌, ◌%◌, nat_lt, List, ◌++◌, codes, pos, if◌then◌else◌}
use Rattle.jiff_core.specs.Calendar.{days_in_month}
use Rattle.jiff_fmt.specs.Text.{pad2, pad4, places}

-- a date of the calendar
pub record CalendarDate : Type 0 where
  pub year : ℕ
  pub month : ℕ
  pub day : ℕ

-- The next one: a day later in the month, or the first of the next month, or 1 January. As
-- days_in_month says, February has 29 days in every fourth year, but of the centuries only in every
-- fourth one.
abbrev pub next_date : CalendarDate → CalendarDate
next_date date =
    if nat_lt date.day (days_in_month (pos date.year) date.month)
    then record date { day = date.day + 1 }
    else if nat_lt date.month 12
    then record { year = date.year; month = date.month + 1; day = 1 }
    else record { year = date.year + 1; month = 1; day = 1 }

-- the date that is this many days after 1970-01-01
unfoldable pub date_of : ℕ → CalendarDate
date_of zero = record { year = 1970; month = 1; day = 1 }
date_of (suc days) = next_date (date_of days)

-- 2026-05-28, of four digits, two and two
abbrev pub date_digits : CalendarDate → List ℕ
date_digits date =
    pad4 date.year ++ codes "-" ++ pad2 date.month ++ codes "-" ++ pad2 date.day

-- the hour, minute, second and nanosecond of the day, as 20:26:40.000003000
abbrev pub clock_digits : ℕ → List ℕ
clock_digits time =
    pad2 (time / 3600000000000 % 24) ++ codes ":" ++ pad2 (time / 60000000000 % 60)
    ++ codes ":" ++ pad2 (time / 1000000000 % 60)
    ++ codes "." ++ places 9 1000000000 (time % 1000000000)

-- The time that is this many nanoseconds after 1970-01-01T00:00:00Z, as
-- 2026-05-28T20:26:40.000003000Z: RFC 3339 in UTC, where a day has 86,400 seconds.
unfoldable pub utc_text : ℕ → List ℕ
utc_text time =
    date_digits (date_of (time / 86400000000000)) ++ codes "T" ++ clock_digits time ++ codes "Z"
