-- The runs that the values of the options of replay and of stats give.
use Rattle.std.specs.Prelude.{◌≡◌, ℕ, List, Bool, false, ◌||◌, Result, codes, if◌then◌else◌, is_some, length, unwrap_or}
use Rattle.clap.specs.Walk.{Row, first_of, one_of}
use Rattle.run_settings.specs.declared.feed_settings.FeedSettings.{FeedSettings}
use Rattle.run_settings.specs.declared.next_session.NextSession.{NextSession}
use Rattle.run_settings.specs.declared.run_input.RunInput.{RunInput}
use Rattle.run_settings.specs.declared.run_output.RunOutput.{RunOutput}
use Rattle.run_settings.specs.declared.run_settings.RunSettings.{RunSettings}
use Rattle.run_settings.specs.declared.skip_rule.SkipRule.{SkipRule}
use Rattle.run_settings.specs.declared.time_span.TimeSpan.{TimeSpan}
use Rattle.command_words.specs.BestFormats.{replay_output_in}
use Rattle.command_words.specs.CapturedLines.{ReadsInput}
use Rattle.command_words.specs.FeedRequests.{ReadsFeed}
use Rattle.command_words.specs.NextSessions.{ReadsNextSessions}
use Rattle.command_words.specs.OptionValues.{is_flag_set, list_in, number_given}
use Rattle.command_words.specs.Readings.{Gives, Then, Yields}
use Rattle.command_words.specs.SkipRules.{skips_in}
use Rattle.command_words.specs.SpanWords.{ReadsSpan}
use Rattle.command_words.specs.StatsOutputs.{ReadsCounted, bests_by}
use Rattle.command_words.specs.TimeStyles.{styled_in}
use Rattle.command_words.specs.VenueLists.{ReadsVenues}
use Rattle.command_words.specs.declared.refusal.Refusal.{Refusal}

-- the output of replay, but for its style
abbrev pub ReadsReplayOutput : List Row → Result RunOutput Refusal → Type 0
ReadsReplayOutput rows =
    Gives (replay_output_in (is_flag_set (one_of (codes "best-only") rows))
    (first_of (codes "format") rows))

-- the output of stats, but for its style: what it counts, or with --bests the rows of
-- national bests in its place
abbrev pub ReadsStatsOutput : List Row → Result RunOutput Refusal → Type 0
ReadsStatsOutput rows =
    Then (ReadsCounted (is_flag_set (one_of (codes "gaps") rows)) (first_of (codes "every") rows)
    (first_of (codes "format") rows) (first_of (codes "lines") rows))
    (λ counted. Gives (bests_by (is_flag_set (one_of (codes "bests") rows)) counted))

-- the rule by which gaps are given up
abbrev pub ReadsSkips : List Row → Result SkipRule Refusal → Type 0
ReadsSkips rows =
    Gives (skips_in (is_flag_set (one_of (codes "join") rows))
    (is_flag_set (one_of (codes "skip-gaps") rows))
    (number_given (one_of (codes "skip-after") rows)) (first_of (codes "lines") rows))

-- The settings of a run have these parts.
pub record IsRunAsked (feed : FeedSettings) (gaps : Bool) (output : RunOutput) (input : RunInput)
    (span : TimeSpan) (skips : SkipRule) (next : List NextSession) (settings : RunSettings)
    : Type 0 where
  pub feed_is : settings.feed ≡ feed
  pub gaps_is : settings.gaps ≡ gaps
  pub skips_are : settings.skips ≡ skips
  pub input_is : settings.input ≡ input
  pub output_is : settings.output ≡ output
  pub span_is : settings.span ≡ span
  pub next_are : settings.next_sessions.items ≡ next

-- the output of this many venues, in the style of its times and with the names of its venues
abbrev pub ReadsStyled : List Row → (venues : ℕ) → (plain : RunOutput) → Result RunOutput Refusal
    → Type 0
ReadsStyled rows venues plain =
    Then (Gives (styled_in plain (first_of (codes "times") rows) (first_of (codes "lines") rows)))
    (λ styled. ReadsVenues (first_of (codes "venues") rows) venues styled)

-- The run of this feed: the style of times and the names of venues are looked at first, then the
-- list of lines, the span of time, the rule for gaps, and last the sessions that follow others.
abbrev pub ReadsRunOf : List Row → FeedSettings → (gaps : Bool) → (plain : RunOutput)
    → Result RunSettings Refusal → Type 0
ReadsRunOf rows feed gaps plain =
    Then (ReadsStyled rows (length feed.sessions.items) plain)
    (λ output. Then (ReadsInput (first_of (codes "lines") rows)
    (length feed.sessions.items))
    (λ input. Then (ReadsSpan output (first_of (codes "from") rows) (first_of (codes "to") rows)
    (first_of (codes "lines") rows))
    (λ span. Then (ReadsSkips rows)
    (λ skips. Then (ReadsNextSessions (is_some (first_of (codes "lines") rows)) (list_in rows)
    (length feed.sessions.items))
    (λ next. Yields (IsRunAsked feed gaps output input span skips next))))))

-- The journal of replay where no text gives one: with --lines or --best-only it has the most room,
-- since its entries take no memory.
abbrev pub replay_journal : List Row → ℕ
replay_journal rows =
    if is_flag_set (one_of (codes "best-only") rows) || is_some (first_of (codes "lines") rows)
    then 4294967295 else 1000000

-- The run of replay: the feed is looked at first, and then the output.
abbrev pub ReadsReplay : List Row → Result RunSettings Refusal → Type 0
ReadsReplay rows =
    Then (ReadsFeed rows (unwrap_or (number_given (one_of (codes "journal") rows))
    (replay_journal rows)))
    (λ feed. Then (ReadsReplayOutput rows)
    (λ plain. ReadsRunOf rows feed (is_flag_set (one_of (codes "gaps") rows)) plain))

-- The same of stats. No gap lines are printed, and the journal has the most room.
abbrev pub ReadsStats : List Row → Result RunSettings Refusal → Type 0
ReadsStats rows =
    Then (ReadsFeed rows 4294967295)
    (λ feed. Then (ReadsStatsOutput rows) (λ plain. ReadsRunOf rows feed false plain))
