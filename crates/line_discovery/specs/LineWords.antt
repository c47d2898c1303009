-- The words by which `nbbo` reads the lines of a capture: of each venue its session and its two
-- lines, the first 16 venues, and before them the sessions that they leave out.
use Rattle.std.specs.Prelude.{ℕ, List, [], ◌∷◌, ◌++◌, codes, drop, flat_map, take, if◌then◌else◌}
use Rattle.line_discovery.specs.declared.line_key.LineKey.{LineKey}
use Rattle.line_discovery.specs.declared.line_row.LineRow.{LineRow}
use Rattle.line_discovery.specs.declared.standing.Standing.{Standing}
use Rattle.line_discovery.specs.declared.standing.Standing.TheVariants.{Venue}
use Rattle.line_discovery.specs.declared.words.VenueLines.{VenueLines}
use Rattle.line_discovery.specs.Places.{is_lower_place, place_text, session_name}
use Rattle.line_discovery.specs.SessionWords.{session_word}
use Rattle.line_discovery.specs.Standings.{left_of, left_row, standing_of}

-- ---- venues

-- two lines, by address and port, whichever came first
abbrev pub pair_of : LineKey → LineKey → VenueLines
pair_of one other =
    if is_lower_place one other
    then record { a = one; b = other } else record { a = other; b = one }

abbrev pub venue_by : LineRow → Standing → List VenueLines
venue_by row (Venue other) = pair_of row.key other.key ∷ []
venue_by row _ = []

abbrev pub venue_found : List LineRow → LineRow → List VenueLines
venue_found rows row = venue_by row (standing_of rows row)

-- the venues, by when their sessions first came
abbrev pub venues_of : List LineRow → List VenueLines
venues_of rows = flat_map (venue_found rows) rows

-- ---- words

abbrev pub session_of : VenueLines → List ℕ
session_of v = session_word (session_name v.a.session)

abbrev pub lines_of : VenueLines → List ℕ
lines_of v =
    place_text v.a.address v.a.port ++ (codes "," ++ place_text v.b.address v.b.port)

-- the others, each after a comma
abbrev pub more_sessions : List VenueLines → List ℕ
more_sessions venues = flat_map (λ v. codes "," ++ session_of v) venues

abbrev pub more_lines : List VenueLines → List ℕ
more_lines venues = flat_map (λ v. codes "," ++ lines_of v) venues

-- the words for a venue and more of them
abbrev pub named_words : VenueLines → List VenueLines → List ℕ
named_words v more =
    codes "\nsessions at two addresses and ports:\n--sessions="
    ++ (session_of v
    ++ (more_sessions more
    ++ (codes " --lines=" ++ (lines_of v ++ (more_lines more ++ codes "\n")))))

-- the words for some venues: an empty line without one, so that the last line has words or nothing
abbrev pub words_with : List VenueLines → List ℕ
words_with [] = codes "\n"
words_with (v ∷ more) = named_words v more

-- ---- at most 16 venues, and the sessions of the others

abbrev pub past_row : VenueLines → List ℕ
past_row v = left_row v.a.session (codes "is past the first 16 venues")

abbrev pub words_by : List VenueLines → List ℕ
words_by venues = flat_map past_row (drop 16 venues) ++ words_with (take 16 venues)

-- the sessions that are left out, and the words
abbrev pub words_of : List LineRow → List ℕ
words_of rows = flat_map (left_of rows) rows ++ words_by (venues_of rows)
