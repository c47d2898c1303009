-- The times of rows, at which a row's record came: seconds from 1970 on, or dates.
use Rattle.std.specs.Prelude.{ℕ, ◌/◌, ◌%◌, Bool, true, false, List, [], ◌++◌, codes, decimal, Option, Some, None}
use Rattle.run_settings.specs.declared.formats.TimeStyle.{TimeStyle}
use Rattle.run_settings.specs.declared.formats.TimeStyle.TheVariants.{Seconds, Utc}
use Rattle.best_rows.specs.UtcTexts.{utc_text}
use Rattle.best_rows.specs.declared.row_time.RowTime.{RowTime}
use Rattle.best_rows.specs.declared.row_time.RowTime.TheVariants.{Absent, Given}

-- what a row says of this time, where rows are timed or not
abbrev pub row_time : Bool → Option ℕ → RowTime
row_time false time = Absent
row_time true time = Given time

-- the last nine digits of a number
unfoldable pub nine_digits : ℕ → List ℕ
nine_digits n =
    decimal (n / 100000000 % 10) ++ decimal (n / 10000000 % 10) ++ decimal (n / 1000000 % 10)
    ++ decimal (n / 100000 % 10) ++ decimal (n / 10000 % 10) ++ decimal (n / 1000 % 10)
    ++ decimal (n / 100 % 10) ++ decimal (n / 10 % 10) ++ decimal (n / 1 % 10)

-- nanoseconds as seconds with nine places
abbrev pub seconds_text : ℕ → List ℕ
seconds_text time = decimal (time / 1000000000) ++ codes "." ++ nine_digits time

-- a time in a style
abbrev pub time_text : TimeStyle → ℕ → List ℕ
time_text Seconds time = seconds_text time
time_text Utc time = utc_text time

-- one more value of a row of comma-separated values, empty where the time isn't known
abbrev pub csv_time : TimeStyle → RowTime → List ℕ
csv_time style Absent = []
csv_time style (Given None) = codes ","
csv_time style (Given (Some time)) = codes "," ++ time_text style time

-- a time as a value of JSON: a number of seconds, or a date as a text
abbrev pub json_time_value : TimeStyle → ℕ → List ℕ
json_time_value Seconds time = seconds_text time
json_time_value Utc time = codes "\"" ++ utc_text time ++ codes "\""

-- two more members of an object, in the style and in nanoseconds
abbrev pub json_known_time : TimeStyle → ℕ → List ℕ
json_known_time style time =
    codes ",\"time\":" ++ json_time_value style time ++ codes ",\"time_ns\":" ++ decimal time

-- the same, null where the time isn't known
abbrev pub json_time : TimeStyle → RowTime → List ℕ
json_time style Absent = []
json_time style (Given None) = codes ",\"time\":null,\"time_ns\":null"
json_time style (Given (Some time)) = json_known_time style time
