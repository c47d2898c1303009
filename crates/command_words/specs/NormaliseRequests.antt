-- The requests that the values of the options of normalise give.
use Rattle.std.specs.Prelude.{◌≡◌, ℕ, List, false, Option, Result, codes, is_some, length, map, unwrap_or}
use Rattle.clap.specs.Walk.{Row, Text, first_of, one_of}
use Rattle.run_settings.specs.declared.end_number_rule.EndNumberRule.{EndNumberRule}
use Rattle.run_settings.specs.declared.feed_settings.FeedSettings.{FeedSettings}
use Rattle.run_settings.specs.declared.next_session.NextSession.{NextSession}
use Rattle.run_settings.specs.declared.run_input.RunInput.{RunInput}
use Rattle.run_settings.specs.declared.skip_rule.SkipRule.{SkipRule}
use Rattle.command_words.specs.CapturedLines.{ReadsInput}
use Rattle.command_words.specs.Destinations.{IsAddressed}
use Rattle.command_words.specs.EndNumbers.{end_number_in}
use Rattle.command_words.specs.FeedRequests.{ReadsFeed}
use Rattle.command_words.specs.NextSessions.{ReadsNextSessions}
use Rattle.command_words.specs.OptionValues.{is_flag_set, list_in, number_given, snapshot_texts_in}
use Rattle.command_words.specs.Readings.{Gives, Only, Then, Yields}
use Rattle.command_words.specs.SkipRules.{skips_in}
use Rattle.command_words.specs.SnapshotFiles.{VenueFile, ReadsSnapshots, named_by}
use Rattle.command_words.specs.declared.normalise_request.NormaliseRequest.{NormaliseRequest}
use Rattle.command_words.specs.declared.refusal.Refusal.{Refusal}
use Rattle.command_words.specs.declared.refusal.Refusal.TheVariants.{BadLines}

-- the input, of which a packet capture has a destination for the frames of each venue
abbrev pub ReadsAddressed : (lines : Option Text) → (venues : ℕ) → Result RunInput Refusal
    → Type 0
ReadsAddressed lines venues =
    Then (ReadsInput lines venues) (λ input. Only (IsAddressed venues input) BadLines input)

-- the rule by which gaps are given up, which is never that of --join
abbrev pub ReadsNormalisingSkips : List Row → Result SkipRule Refusal → Type 0
ReadsNormalisingSkips rows =
    Gives (skips_in false (is_flag_set (one_of (codes "skip-gaps") rows))
    (number_given (one_of (codes "skip-after") rows)) (first_of (codes "lines") rows))

-- how many live orders a venue may have, by default 1,048,576
abbrev pub orders_in : Option Text → ℕ
orders_in text = unwrap_or (number_given text) 1048576

-- The request has these parts.
pub record IsNormalisingAsked (rows : List Row) (feed : FeedSettings) (input : RunInput)
    (skips : SkipRule) (end_number : EndNumberRule) (next : List NextSession)
    (snapshots : List VenueFile) (request : NormaliseRequest) : Type 0 where
  pub feed_is : request.settings.feed ≡ feed
  pub input_is : request.settings.input ≡ input
  pub skips_are : request.settings.skips ≡ skips
  pub end_number_is : request.settings.end_number ≡ end_number
  pub next_are : request.settings.next_sessions.items ≡ next
  pub orders_are : request.settings.orders ≡ orders_in (one_of (codes "orders") rows)
  pub snapshots_are : map named_by request.snapshots.items ≡ snapshots

-- The request of normalise: the feed, which has no journal, is looked at first, then the list of
-- lines, the rule for gaps, that for the number of an end, the sessions that follow, and last the
-- files of snapshots.
abbrev pub ReadsNormalising : List Row → Result NormaliseRequest Refusal → Type 0
ReadsNormalising rows =
    Then (ReadsFeed rows 0)
    (λ feed. Then (ReadsAddressed (first_of (codes "lines") rows) (length feed.sessions.items))
    (λ input. Then (ReadsNormalisingSkips rows)
    (λ skips. Then (Gives (end_number_in (first_of (codes "end-number") rows)))
    (λ end_number. Then (ReadsNextSessions (is_some (first_of (codes "lines") rows)) (list_in rows)
    (length feed.sessions.items))
    (λ next. Then (ReadsSnapshots (snapshot_texts_in rows) feed.sessions.items)
    (λ snapshots. Yields
    (IsNormalisingAsked rows feed input skips end_number next snapshots)))))))
