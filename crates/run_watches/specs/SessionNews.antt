-- What standard error has of a session that begins while a run goes on. The text is this project's
-- own.
use Rattle.std.specs.Prelude.{ℕ, ◌==◌, List, [], ◌∷◌, ◌++◌, codes, decimal, if◌then◌else◌}
use Rattle.run_notes.specs.SessionNames.{name_texts}
use Rattle.run_settings.specs.declared.venue_names.VenueNames.{VenueNames}
use Rattle.run_watches.specs.GapNews.{venue_time_texts}
use Rattle.run_watches.specs.declared.session_news.SessionNews.{SessionNews}

-- how many sessions have begun and ended since the last look, if any, to the end of the line
abbrev pub missed_texts : ℕ → List (List ℕ)
missed_texts missed =
    if missed == 0 then codes "\n" ∷ []
    else codes ", after " ∷ decimal missed ∷ codes " that came and went since the last look\n" ∷ []

-- when, which venue, and which session has begun
abbrev pub session_news_texts : VenueNames → SessionNews → List (List ℕ)
session_news_texts names news =
    venue_time_texts names news.second news.venue
    ++ (codes " begins session " ∷ (name_texts news.session ++ missed_texts news.missed))
