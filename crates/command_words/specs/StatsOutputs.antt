-- What stats prints by its options: counts, or the rows of gaps, or those of periods of a packet
-- capture.
use Rattle.std.specs.Prelude.{ℕ, Bool, true, false, List, Option, Some, None, Result, Ok, Err, codes, if◌then◌else◌}
use Rattle.std.specs.Str.{bytes_eq}
use Rattle.run_settings.specs.declared.formats.ReportFormat.{ReportFormat}
use Rattle.run_settings.specs.declared.formats.ReportFormat.TheVariants as reports
use Rattle.run_settings.specs.declared.formats.RowFormat.{RowFormat}
use Rattle.run_settings.specs.declared.formats.RowFormat.TheVariants.{Csv, Json}
use Rattle.run_settings.specs.Styles.{all_numbers}
use Rattle.run_settings.specs.declared.run_output.RunOutput.{RunOutput}
use Rattle.run_settings.specs.declared.run_output.RunOutput.TheVariants.{Stats, Gaps, Periods, BestTimes}
use Rattle.command_words.specs.PeriodWords.{SpellsPeriod}
use Rattle.command_words.specs.Readings.{Finds, Gives, Then, and_then, mapped, named_or}
use Rattle.command_words.specs.declared.refusal.Refusal.{Refusal}
use Rattle.command_words.specs.declared.refusal.Refusal.TheVariants.{BadPeriod, BadFormat, BestsWithoutEvery, EveryWithoutLines, GapsWithEvery}

-- the form of rows of this name, with times as numbers
abbrev pub row_format_named : List ℕ → Option RowFormat
row_format_named name =
    if bytes_eq name (codes "csv") then Some (Csv all_numbers)
    else if bytes_eq name (codes "json") then Some (Json all_numbers) else None

-- rows have the form that is named, or are comma-separated values
abbrev pub row_format_by : Option (List ℕ) → Result RowFormat Refusal
row_format_by = named_or row_format_named (Csv all_numbers) BadFormat

-- the form of counts of this name, with times as numbers
abbrev pub report_format_named : List ℕ → Option ReportFormat
report_format_named name =
    if bytes_eq name (codes "table") then Some (reports.Table all_numbers)
    else if bytes_eq name (codes "csv") then Some (reports.Csv all_numbers)
    else if bytes_eq name (codes "json") then Some (reports.Json all_numbers) else None

-- counts are printed in the form that is named, or as tables
abbrev pub report_format_by : Option (List ℕ) → Result ReportFormat Refusal
report_format_by = named_or report_format_named (reports.Table all_numbers) BadFormat

-- rows of periods want the times of a packet capture
abbrev pub timed_periods : (lines : Option (List ℕ)) → (length : ℕ) → RowFormat
    → Result RunOutput Refusal
timed_periods None length form = Err EveryWithoutLines
timed_periods (Some list) length form =
    Ok (Periods (record { format = form; length = length }))

-- Whether --gaps is given, and the texts of --every, --format and --lines, ask for counts, for rows
-- of gaps, or for rows of periods. The texts are looked at in this order.
abbrev pub ReadsCounted : (gaps : Bool) → (every format lines : Option (List ℕ))
    → Result RunOutput Refusal → Type 0
ReadsCounted false None format lines = Gives (mapped (λ f. Stats f) (report_format_by format))
ReadsCounted true None format lines = Gives (mapped (λ f. Gaps f) (row_format_by format))
ReadsCounted true (Some every) format lines = Gives (Err GapsWithEvery)
ReadsCounted false (Some every) format lines =
    Then (Finds (SpellsPeriod every) BadPeriod)
    (λ length. Gives (and_then (row_format_by format) (timed_periods lines length)))

-- With the flag --bests the rows of periods are those of how long national bests stood. Nothing
-- else has such rows.
abbrev pub bests_by : Bool → RunOutput → Result RunOutput Refusal
bests_by false output = Ok output
bests_by true (Periods style) = Ok (BestTimes style)
bests_by true _ = Err BestsWithoutEvery
