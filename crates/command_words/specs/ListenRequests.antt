-- The settings that the values of the options of listen give.
use Rattle.std.specs.Prelude.{◌≡◌, ℕ, List, Bool, true, false, Option, Some, None, Result, Ok, Err, codes, if◌then◌else◌, length, unwrap_or}
use Rattle.clap.specs.Walk.{Row, first_of, one_of}
use Rattle.run_settings.specs.declared.itch_settings.ItchSettings.{ItchSettings}
use Rattle.run_settings.specs.declared.listen_settings.ListenSettings.{ListenSettings}
use Rattle.command_words.specs.Addresses.{ReadsLines, ReadsMetrics, ReadsRequest}
use Rattle.command_words.specs.EndRules.{end_rule_in}
use Rattle.command_words.specs.FeedRequests.{IsFeed}
use Rattle.command_words.specs.FileNames.{ReadsFileName}
use Rattle.command_words.specs.ItchRequests.{ReadsItch}
use Rattle.command_words.specs.ListenFormats.{listen_format_in}
use Rattle.command_words.specs.NextSessions.{ReadsNextSessions}
use Rattle.command_words.specs.OptionValues.{is_flag_set, lines_in, list_in, number_given, symbol_words_in}
use Rattle.command_words.specs.Readings.{Gives, Then, Yields}
use Rattle.command_words.specs.SenderLists.{ReadsNamedSenders}
use Rattle.command_words.specs.Sessions.{ReadsSessions}
use Rattle.command_words.specs.StatsFormats.{listen_stats_in}
use Rattle.command_words.specs.Symbols.{ReadsSymbols}
use Rattle.command_words.specs.VenueLists.{ReadsListenVenues, listen_rows}
use Rattle.command_words.specs.declared.listen_parts.ListenOutputs.{ListenOutputs}
use Rattle.command_words.specs.declared.listen_parts.ListenRules.{ListenRules}
use Rattle.command_words.specs.declared.listen_parts.Reception.{Reception}
use Rattle.command_words.specs.declared.refusal.Refusal.{Refusal}
use Rattle.command_words.specs.declared.refusal.Refusal.TheVariants.{BadRecording, KeptUnfollowed}

-- best lines are printed as they come
abbrev pub is_followed : List Row → Bool
is_followed rows = is_flag_set (one_of (codes "follow") rows)

-- the journal where no text gives one, where best lines are printed as they come and where they
-- aren't
abbrev pub usual_journal : Bool → ℕ
usual_journal follow = if follow then 4294967295 else 1000000

-- how many datagrams a line reads at most: any number, where best lines are printed as they come
-- and none is given
abbrev pub datagrams_by : (follow : Bool) → Option ℕ → Option ℕ
datagrams_by true datagrams = datagrams
datagrams_by false datagrams = Some (unwrap_or datagrams 1000000)

-- How many changes the subscriber may be behind, where best lines are printed as they come; else
-- all changes are kept, and no such number may be given.
abbrev pub kept_by : (follow : Bool) → (number : Option ℕ) → (text : Option (List ℕ))
    → Result (Option ℕ) Refusal
kept_by true number text = Ok (Some (unwrap_or number 65536))
kept_by false number None = Ok None
kept_by false number (Some text) = Err KeptUnfollowed

-- The settings have the values of the options that are never refused.
pub record HasListenOptions (rows : List Row) (settings : ListenSettings) : Type 0 where
  pub request_after_is : settings.request_after
      ≡ number_given (one_of (codes "request-after") rows)
  pub most_ahead_is : settings.most_ahead ≡ number_given (one_of (codes "most-ahead") rows)
  pub join_is : settings.join ≡ is_flag_set (one_of (codes "join") rows)
  pub skip_after_is : settings.skip_after ≡ number_given (one_of (codes "skip-after") rows)
  pub silent_after_is : settings.silent_after ≡ number_given (one_of (codes "silent-after") rows)
  pub datagrams_are : settings.datagrams
      ≡ datagrams_by (is_followed rows) (number_given (one_of (codes "datagrams") rows))
  pub buffer_is : settings.buffer ≡ number_given (one_of (codes "buffer") rows)
  pub seconds_are : settings.seconds ≡ number_given (one_of (codes "seconds") rows)
  pub until_is : settings.until_input_ends ≡ is_flag_set (one_of (codes "until-input-ends") rows)
  pub complete_is : settings.complete ≡ is_flag_set (one_of (codes "complete") rows)
  pub follow_is : settings.follow ≡ is_followed rows

-- The feed that is listened to, its lines, where requests go, and the sessions that follow. They
-- are looked at in this order: sessions, lines, address of requests, sessions that follow, symbols.
abbrev pub ReadsReception : List Row → Result Reception Refusal → Type 0
ReadsReception rows =
    Then (ReadsSessions true (list_in rows))
    (λ sessions. Then (ReadsLines (lines_in rows) (length sessions))
    (λ lines. Then (ReadsRequest lines (first_of (codes "request") rows))
    (λ request. Then (ReadsNextSessions true (list_in rows) (length sessions))
    (λ next. Then (ReadsSymbols (symbol_words_in rows))
    (λ symbols. Yields (λ reception.
    IsFeed rows (unwrap_or (number_given (one_of (codes "journal") rows))
    (usual_journal (is_followed rows))) sessions symbols reception.feed
    × (reception.lines.items ≡ lines) × (reception.request ≡ request)
    × (reception.next.items ≡ next)))))))

-- Which ends end a line, how many changes are kept, and whose datagrams are taken, in this order.
abbrev pub ReadsListenRules : List Row → Result ListenRules Refusal → Type 0
ReadsListenRules rows =
    Then (Gives (end_rule_in (first_of (codes "end") rows)))
    (λ end. Then (Gives (kept_by (is_followed rows) (number_given (one_of (codes "kept") rows))
    (first_of (codes "kept") rows)))
    (λ kept. Then (ReadsNamedSenders (first_of (codes "senders") rows)
    (first_of (codes "from") rows))
    (λ senders. Yields (λ rules.
    (rules.end ≡ end) × (rules.kept ≡ kept) × (rules.senders ≡ senders)))))

-- Where metrics are served, which counts and which form of best lines are printed, what stands for
-- this many venues, and into which file it is recorded what the lines bring, in this order.
abbrev pub ReadsListenOutputs : List Row → (venues : ℕ) → Result ListenOutputs Refusal → Type 0
ReadsListenOutputs rows venues =
    Then (ReadsMetrics (first_of (codes "metrics") rows))
    (λ metrics. Then (Gives (listen_stats_in (number_given (one_of (codes "stats") rows))
    (first_of (codes "stats-format") rows)))
    (λ stats. Then (Gives (listen_format_in (is_followed rows) (first_of (codes "format") rows)
    (first_of (codes "times") rows)))
    (λ plain. Then (ReadsListenVenues (first_of (codes "venues") rows) venues)
    (λ names. Then (ReadsFileName BadRecording (first_of (codes "record") rows))
    (λ record_to. Yields (λ outputs.
    (outputs.metrics ≡ metrics) × (outputs.stats ≡ stats)
    × (outputs.format ≡ listen_rows names plain) × (outputs.venues ≡ names)
    × (outputs.record ≡ record_to)))))))

-- The settings have these parts.
pub record HasParts (reception : Reception) (itch : ItchSettings) (rules : ListenRules)
    (outputs : ListenOutputs) (settings : ListenSettings) : Type 0 where
  pub feed_is : settings.feed ≡ reception.feed
  pub next_are : settings.next ≡ reception.next
  pub itch_is : settings.itch ≡ itch
  pub lines_are : settings.lines ≡ reception.lines
  pub request_is : settings.request ≡ reception.request
  pub end_is : settings.end ≡ rules.end
  pub kept_is : settings.kept ≡ rules.kept
  pub senders_are : settings.senders ≡ rules.senders
  pub metrics_are : settings.metrics ≡ outputs.metrics
  pub stats_are : settings.stats ≡ outputs.stats
  pub format_is : settings.format ≡ outputs.format
  pub record_is : settings.record ≡ outputs.record
  pub venues_are : settings.venues ≡ outputs.venues

-- The settings of listen by the values of its options: the feed is looked at first, then which
-- venues are in ITCH, the rules, and then the outputs.
abbrev pub ReadsListening : List Row → Result ListenSettings Refusal → Type 0
ReadsListening rows =
    Then (ReadsReception rows)
    (λ reception. Then (ReadsItch rows reception.feed.sessions.items)
    (λ itch. Then (ReadsListenRules rows)
    (λ rules. Then (ReadsListenOutputs rows (length reception.feed.sessions.items))
    (λ outputs. Yields (λ settings. HasListenOptions rows settings
    × HasParts reception itch rules outputs settings)))))
