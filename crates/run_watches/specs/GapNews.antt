-- What standard error has of gaps while a run goes on. The texts are this project's own.
use Rattle.std.specs.Prelude.{ℕ, ◌==◌, List, [], ◌∷◌, ◌++◌, Option, Some, None, if◌then◌else◌, codes, decimal}
use Rattle.run_settings.specs.VenueNames.{venue_text}
use Rattle.run_settings.specs.declared.venue_names.VenueNames.{VenueNames}
use Rattle.run_watches.specs.declared.gap_news.GapChange.{GapChange}
use Rattle.run_watches.specs.declared.gap_news.GapChange.TheVariants.{Lacking, Closed, Unanswered, GivenUp}
use Rattle.run_watches.specs.declared.gap_news.GapNews.{GapNews}
use Rattle.feed_types.specs.declared.missing_range.MissingRange.{MissingRange}

abbrev pub gap_change_text : GapChange → List ℕ
gap_change_text Lacking = codes " lacks "
gap_change_text Closed = codes " no longer lacks "
gap_change_text Unanswered = codes " has no reply to requests for "
gap_change_text GivenUp = codes " gave up "

-- in which second of the run, and of which venue
abbrev pub venue_time_texts : VenueNames → (second venue : ℕ) → List (List ℕ)
venue_time_texts names second venue =
    codes "nbbo: second " ∷ decimal second ∷ codes " venue " ∷ venue_text names venue
    ∷ []

abbrev pub messages_from_text : ℕ → List ℕ
messages_from_text count =
    if count == 1 then codes " message from " else codes " messages from "

-- how many messages, and the first of them
abbrev pub missing_range_texts : MissingRange → List (List ℕ)
missing_range_texts missing =
    decimal missing.count ∷ messages_from_text missing.count ∷ decimal missing.first
    ∷ codes "\n" ∷ []

-- what has happened to messages of a venue: when and to which venue, what, and to which messages
abbrev pub gap_news_texts : VenueNames → GapNews → List (List ℕ)
gap_news_texts names news =
    venue_time_texts names news.second news.venue
    ++ (gap_change_text news.change ∷ missing_range_texts news.missing)

-- the texts of this having happened to these messages of a venue, if there are any
abbrev pub gap_texts_if : VenueNames → (second venue : ℕ) → GapChange → Option MissingRange
    → List (List ℕ)
gap_texts_if names second venue change None = []
gap_texts_if names second venue change (Some missing) =
    gap_news_texts names (record {
      second = second;
      venue = venue;
      change = change;
      missing = missing;
    })
