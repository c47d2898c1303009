-- What is noted and said of messages that a venue has given up by itself.
use Rattle.std.specs.Prelude.{◌≡◌, ℕ, List, [], Option, Some, None, MatchOption, slice_get, slice_set, if◌then◌else◌}
use Rattle.feed_types.specs.declared.missing_range.MissingRange.{MissingRange}
use Rattle.run_settings.specs.declared.venue_names.VenueNames.{VenueNames}
use Rattle.run_watches.specs.GapNews.{gap_news_texts}
use Rattle.run_watches.specs.Gaps.{given_up_in, gives_up, news_of}
use Rattle.run_watches.specs.declared.gap_watch.GapWatch.{GapWatch}
use Rattle.run_watches.specs.declared.gap_watches.GapWatches.{GapWatches}

-- the watch of the venue at this place, where gaps are given up and its gaps are watched
abbrev pub giving_up_at : GapWatches → (place : ℕ) → Option GapWatch
giving_up_at watches place =
    if gives_up watches.rule then slice_get watches.gaps.items place else None

-- That watch, if there is one, has noted that these messages were given up; all else stays.
pub record NotesGivenUp (before : GapWatches) (place : ℕ) (missing : MissingRange)
    (after : GapWatches) : Type 0 where
  pub rest : after ≡ record before { gaps = after.gaps }
  pub noted : MatchOption (giving_up_at before place) (after.gaps ≡ before.gaps)
      (λ watch. after.gaps.items
      ≡ slice_set before.gaps.items place (given_up_in watch missing))

-- the news of that, of the venue of the watch, if there is one
abbrev pub noted_texts : VenueNames → (second : ℕ) → Option GapWatch → MissingRange
    → List (List ℕ)
noted_texts names second None missing = []
noted_texts names second (Some watch) missing =
    gap_news_texts names (news_of second watch.venue missing)
