-- The style in which what is printed has times, by the option --times.
use Rattle.std.specs.Prelude.{ℕ, List, Option, Some, None, Result, Ok, Err, codes, if◌then◌else◌, option_map}
use Rattle.std.specs.Option.{ok_or}
use Rattle.std.specs.Str.{bytes_eq}
use Rattle.run_settings.specs.declared.formats.BestFormat.{BestFormat}
use Rattle.run_settings.specs.declared.formats.BestFormat.TheVariants as bests
use Rattle.run_settings.specs.declared.formats.ReportFormat.{ReportFormat}
use Rattle.run_settings.specs.declared.formats.ReportFormat.TheVariants as reports
use Rattle.run_settings.specs.declared.formats.RowFormat.{RowFormat}
use Rattle.run_settings.specs.declared.formats.RowFormat.TheVariants as rows
use Rattle.run_settings.specs.declared.formats.TimeStyle.{TimeStyle}
use Rattle.run_settings.specs.declared.formats.TimeStyle.TheVariants.{Seconds, Utc}
use Rattle.run_settings.specs.declared.period_style.PeriodStyle.{PeriodStyle}
use Rattle.run_settings.specs.declared.run_output.RunOutput.{RunOutput}
use Rattle.run_settings.specs.declared.run_output.RunOutput.TheVariants.{Lines, Bests, Stats, Gaps, Periods, BestTimes}
use Rattle.command_words.specs.Readings.{and_then, named_or}
use Rattle.command_words.specs.declared.refusal.Refusal.{Refusal}
use Rattle.command_words.specs.declared.refusal.Refusal.TheVariants.{BadTimeStyle, TimesOfText, TimesWithoutLines}

-- the style of this name
abbrev pub time_style_named : List ℕ → Option TimeStyle
time_style_named name =
    if bytes_eq name (codes "utc") then Some Utc
    else if bytes_eq name (codes "seconds") then Some Seconds else None

-- the format with times in a style, which lines of text haven't
abbrev pub best_format_in : TimeStyle → BestFormat → Option BestFormat
best_format_in style (bests.Csv plain) = Some (bests.Csv (record plain { times = style }))
best_format_in style (bests.Json plain) = Some (bests.Json (record plain { times = style }))
best_format_in style bests.Text = None

abbrev pub row_format_in : TimeStyle → RowFormat → RowFormat
row_format_in style (rows.Csv plain) = rows.Csv (record plain { times = style })
row_format_in style (rows.Json plain) = rows.Json (record plain { times = style })

abbrev pub report_format_in : TimeStyle → ReportFormat → ReportFormat
report_format_in style (reports.Table plain) = reports.Table (record plain { times = style })
report_format_in style (reports.Csv plain) = reports.Csv (record plain { times = style })
report_format_in style (reports.Json plain) = reports.Json (record plain { times = style })

abbrev pub styled_periods : TimeStyle → PeriodStyle → PeriodStyle
styled_periods style periods = record periods { format = row_format_in style periods.format }

-- the output with its times in a style, which it has but where it is lines of text
abbrev pub output_in : TimeStyle → RunOutput → Option RunOutput
output_in style Lines = None
output_in style (Bests format) = option_map (λ f. Bests f) (best_format_in style format)
output_in style (Stats format) = Some (Stats (report_format_in style format))
output_in style (Gaps format) = Some (Gaps (row_format_in style format))
output_in style (Periods periods) = Some (Periods (styled_periods style periods))
output_in style (BestTimes periods) = Some (BestTimes (styled_periods style periods))

-- the output whose times a packet capture gives
abbrev pub timed_output : (lines : Option (List ℕ)) → RunOutput → Result RunOutput Refusal
timed_output None output = Err TimesWithoutLines
timed_output (Some list) output = Ok output

-- The text of --times, where it is given, names the style of this output's times. Lines of text
-- have none, and others have them with --lines.
abbrev pub styled_in : RunOutput → (times lines : Option (List ℕ)) → Result RunOutput Refusal
styled_in plain None lines = Ok plain
styled_in plain (Some name) lines =
    and_then (ok_or (time_style_named name) BadTimeStyle)
    (λ style. and_then (ok_or (output_in style plain) TimesOfText) (timed_output lines))

-- the style that is named, or numbers
abbrev pub time_style_in : Option (List ℕ) → Result TimeStyle Refusal
time_style_in = named_or time_style_named Seconds BadTimeStyle
