-- The feeds that the values of options give.
use Rattle.std.specs.Prelude.{◌≡◌, ℕ, List, Result, codes, is_some}
use Rattle.clap.specs.Walk.{Row, Text, first_of, one_of}
use Rattle.run_settings.specs.declared.feed_settings.FeedSettings.{FeedSettings}
use Rattle.command_words.specs.OptionValues.{list_in, symbol_words_in, window_in}
use Rattle.command_words.specs.Readings.{Then, Yields}
use Rattle.command_words.specs.Sessions.{ReadsSessions}
use Rattle.command_words.specs.Symbols.{ReadsSymbols}
use Rattle.command_words.specs.declared.refusal.Refusal.{Refusal}

-- The feed has these sessions and symbols, room for `journal` entries and the window of its option.
pub record IsFeed (rows : List Row) (journal : ℕ) (sessions symbols : List Text)
    (feed : FeedSettings) : Type 0 where
  pub sessions_are : feed.sessions.items ≡ sessions
  pub symbols_are : feed.symbols.items ≡ symbols
  pub window_is : feed.window ≡ window_in (one_of (codes "window") rows)
  pub journal_is : feed.journal ≡ journal

-- The feed by the values of the options: the sessions are looked at first, then the symbols. With
-- --lines others may follow a session.
abbrev pub ReadsFeed : List Row → (journal : ℕ) → Result FeedSettings Refusal → Type 0
ReadsFeed rows journal =
    Then (ReadsSessions (is_some (first_of (codes "lines") rows)) (list_in rows))
    (λ sessions. Then (ReadsSymbols (symbol_words_in rows))
    (λ symbols. Yields (IsFeed rows journal sessions symbols)))
