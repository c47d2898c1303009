-- The texts of values in a report.
use Rattle.std.specs.Prelude.{ℕ, List, [], ◌++◌, codes, decimal}
use Rattle.run_settings.specs.declared.formats.TimeStyle.{TimeStyle}
use Rattle.run_settings.specs.declared.formats.TimeStyle.TheVariants.{Seconds, Utc}
use Rattle.best_rows.specs.Times.{time_text}
use Rattle.best_rows.specs.UtcTexts.{utc_text}
use Rattle.replay_reports.specs.declared.report.figure.FigureValue.{FigureValue}
use Rattle.replay_reports.specs.declared.report.figure.FigureValue.TheVariants.{Nothing, Count, Time}

-- a value, in the place of none this text
abbrev pub value_text : TimeStyle → List ℕ → FigureValue → List ℕ
value_text style none Nothing = none
value_text style none (Count n) = decimal n
value_text style none (Time time) = time_text style time

-- a time as nanoseconds, or as a date in quotation marks
abbrev pub json_time_of : TimeStyle → ℕ → List ℕ
json_time_of Seconds time = decimal time
json_time_of Utc time = codes "\"" ++ (utc_text time ++ codes "\"")

abbrev pub json_of_value : TimeStyle → FigureValue → List ℕ
json_of_value style Nothing = codes "null"
json_of_value style (Count n) = decimal n
json_of_value style (Time time) = json_time_of style time
