-- The settings of `nbbo listen`, as a feed and its lines take them.
use Rattle.std.specs.Prelude.{◌≡◌, ℕ, false, true, List, ◌∷◌, Option, None, Some, slice_get, if◌then◌else◌}
use Rattle.std.specs.List.{last_or}
use Rattle.feed_types.specs.declared.config.FeedConfig.{FeedConfig}
use Rattle.feed_types.specs.declared.line.LineId.{LineId}
use Rattle.feed_types.specs.declared.line.LineId.TheVariants.{A, B, Recovery}
use Rattle.best_rows.specs.declared.style.RowStyle.{RowStyle}
use Rattle.run_settings.specs.NextSessions.{names_after}
use Rattle.live_feed.specs.Lanes.{FeedSetting}
use Rattle.run_settings.specs.FurtherOptions.{most_lead}
use Rattle.run_settings.specs.declared.end_rule.EndRule.{EndRule}
use Rattle.run_settings.specs.declared.end_rule.EndRule.TheVariants.{AnySession, NoSession, OwnSession}
use Rattle.run_settings.specs.Senders.{senders_of}
use Rattle.run_settings.specs.declared.listen_settings.ListenSettings.{ListenSettings}
use Rattle.udp_listening.specs.Lines.{UdpState}

-- the most notices of a log: as many as the journal's entries, unless they are printed as they come
-- and forgotten
abbrev pub most_logged : ListenSettings → ℕ
most_logged settings = if settings.follow then 4294967295 else settings.feed.journal

-- how rows are written: in the format of the settings, with times where it has any
abbrev pub row_style : ListenSettings → RowStyle
row_style settings = record { format = settings.format; timed = true }

-- the settings as a feed takes them: a lane holds 1,024 items
pub record IsFeedOf (settings : ListenSettings) (config : FeedConfig) : Type 0 where
  pub sessions : config.sessions.now ≡ settings.feed.sessions.items
  pub symbols : config.symbols.now ≡ settings.feed.symbols.items
  pub window : config.window ≡ settings.feed.window
  pub lane : config.lane ≡ 1024
  pub journal : config.journal ≡ settings.feed.journal
  pub log : config.log ≡ most_logged settings

-- the setting of the feed, which keeps all changes, or as many as its subscriber may be behind
abbrev pub feed_setting : ListenSettings → FeedSetting
feed_setting settings = record {
  symbols = settings.feed.symbols.items;
  window = settings.feed.window;
  lane = 1024;
  journal = settings.feed.journal;
  log = most_logged settings;
  kept = settings.kept;
}

-- which ends of session end a line: those that the settings say, and none line R
abbrev pub end_rule_of : LineId → EndRule → EndRule
end_rule_of A end = end
end_rule_of B end = end
end_rule_of Recovery end = NoSession

-- Which ends of session end the lines of a venue whose first session these follow: where there are
-- any, and each end does by the settings, that of the last one alone.
abbrev pub end_followed : (following : List (List ℕ)) → EndRule → EndRule
end_followed (name ∷ others) AnySession = OwnSession
end_followed following end = end

-- how many datagrams it reads: as many as the settings say, and line R any number
abbrev pub most_read_of : LineId → Option ℕ → Option ℕ
most_read_of A datagrams = datagrams
most_read_of B datagrams = datagrams
most_read_of Recovery datagrams = None

-- the names of the sessions that follow the venue's first one
abbrev pub following_of : ListenSettings → ℕ → List (List ℕ)
following_of settings venue = names_after venue settings.next.items

-- The source reads datagrams for the venue, of the senders that the settings say, and withholds
-- what is as far ahead as they say. Its session is the venue's last one: that of the settings, or
-- the last of those that follow it. Lines A and B read as many and end with an end of session as
-- the settings say, but with that of the last session alone where one follows another; line R goes
-- on.
pub record IsSourceOf (settings : ListenSettings) (venue : ℕ) (of : LineId) (line : UdpState)
    : Type 0 where
  pub venue_is : line.venue ≡ venue
  pub session : last_or (slice_get settings.feed.sessions.items venue)
      (following_of settings venue) ≡ Some line.session
  pub rule : line.rule ≡ end_rule_of of (end_followed (following_of settings venue) settings.end)
  pub senders : line.senders ≡ senders_of settings.senders
  pub most_ahead : line.most_ahead ≡ most_lead settings
  pub left : line.left ≡ most_read_of of settings.datagrams
  pub whole : line.failed ≡ false
  pub unended : line.ended ≡ false
  pub ender : line.ender ≡ None
