-- The counts of messages by type for which the values of the options of stats ask.
use Rattle.std.specs.Prelude.{◌≡◌, ℕ, List, Bool, true, false, ◌||◌, Option, None, Some, Result, Err, codes, is_some, length}
use Rattle.std.specs.Option.{ok_or}
use Rattle.clap.specs.Walk.{Row, first_of, one_of}
use Rattle.run_settings.specs.declared.feed_settings.FeedSettings.{FeedSettings}
use Rattle.run_settings.specs.declared.formats.RowFormat.{RowFormat}
use Rattle.run_settings.specs.declared.run_input.RunInput.{RunInput}
use Rattle.run_settings.specs.declared.run_output.RunOutput.{RunOutput}
use Rattle.run_settings.specs.declared.run_output.RunOutput.TheVariants.{Gaps}
use Rattle.run_settings.specs.declared.time_span.TimeSpan.{TimeSpan}
use Rattle.command_words.specs.CapturedLines.{ReadsInput}
use Rattle.command_words.specs.FeedRequests.{ReadsFeed}
use Rattle.command_words.specs.OptionValues.{is_flag_set}
use Rattle.command_words.specs.Readings.{Gives, Then, Yields}
use Rattle.command_words.specs.RunRequests.{ReadsStyled}
use Rattle.command_words.specs.SpanWords.{ReadsSpan}
use Rattle.command_words.specs.StatsOutputs.{row_format_by}
use Rattle.command_words.specs.declared.refusal.Refusal.{Refusal}
use Rattle.command_words.specs.declared.refusal.Refusal.TheVariants.{BadFormat, TypesWithRows}
use Rattle.command_words.specs.declared.type_settings.TypeSettings.{TypeSettings}

-- rows of another kind are asked for
abbrev pub asks_rows : List Row → Bool
asks_rows rows =
    is_flag_set (one_of (codes "gaps") rows)
    || (is_some (first_of (codes "every") rows) || is_flag_set (one_of (codes "bests") rows))

-- the format of rows of gaps, if these are printed
abbrev pub gap_format : RunOutput → Option RowFormat
gap_format (Gaps format) = Some format
gap_format _ = None

-- The form of the rows for this many venues, in the style of their times and with the names of the
-- venues. It is read as that of rows of gaps.
abbrev pub ReadsRowFormat : List Row → (venues : ℕ) → Result RowFormat Refusal → Type 0
ReadsRowFormat rows venues =
    Then (Gives (row_format_by (first_of (codes "format") rows)))
    (λ plain. Then (ReadsStyled rows venues (Gaps plain))
    (λ output. Gives (ok_or (gap_format output) BadFormat)))

-- The settings have these parts.
pub record AreTypesAsked (feed : FeedSettings) (format : RowFormat) (input : RunInput)
    (span : TimeSpan) (settings : TypeSettings) : Type 0 where
  pub venues_are : settings.venues ≡ length feed.sessions.items
  pub format_is : settings.format ≡ format
  pub input_is : settings.input ≡ input
  pub span_is : settings.span ≡ span

-- the feed is looked at first, then the form of the rows, the list of lines, and the span of time
abbrev pub ReadsTypesAlone : List Row → Result TypeSettings Refusal → Type 0
ReadsTypesAlone rows =
    Then (ReadsFeed rows 4294967295)
    (λ feed. Then (ReadsRowFormat rows (length feed.sessions.items))
    (λ format. Then (ReadsInput (first_of (codes "lines") rows) (length feed.sessions.items))
    (λ input. Then (ReadsSpan (Gaps format) (first_of (codes "from") rows)
    (first_of (codes "to") rows) (first_of (codes "lines") rows))
    (λ span. Yields (AreTypesAsked feed format input span)))))

-- it is read so, unless rows of another kind are asked for, too
abbrev pub UnlessRows : Bool → (Result TypeSettings Refusal → Type 0)
    → Result TypeSettings Refusal → Type 0
UnlessRows true Read = Gives (Err TypesWithRows)
UnlessRows false Read = Read

-- the counts of messages by type
abbrev pub ReadsTypes : List Row → Result TypeSettings Refusal → Type 0
ReadsTypes rows = UnlessRows (asks_rows rows) (ReadsTypesAlone rows)
