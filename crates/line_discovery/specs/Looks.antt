-- Which sessions look like ITCH, by the forms of their messages, and what is said of these.
use Rattle.std.specs.Prelude.{ℕ, Bool, ◌&&◌, not, nat_lt, List, [], ◌++◌, codes, find, if◌then◌else◌}
use Rattle.std.specs.List.{list_any}
use Rattle.line_discovery.specs.declared.line_row.LineRow.{LineRow}
use Rattle.line_discovery.specs.Places.{session_name}
use Rattle.line_discovery.specs.Standings.{is_of_session, is_this}

-- this row of a row's session had a message of the standard's forms, and one of this project's
abbrev pub shows_itch : LineRow → LineRow → Bool
shows_itch row r = is_of_session row r && nat_lt 0 r.itch

abbrev pub shows_own : LineRow → LineRow → Bool
shows_own row r = is_of_session row r && nat_lt 0 r.own

-- on some line the session had a message of the standard's forms, and on none one of this project's
abbrev pub looks_like_itch : List LineRow → LineRow → Bool
looks_like_itch rows row =
    list_any (shows_itch row) rows && not (list_any (shows_own row) rows)

-- the first row of its session
abbrev pub is_first_of : List LineRow → LineRow → Bool
is_first_of rows row = is_this row (find (is_of_session row) rows)

-- what the table says once of such a session
abbrev pub look_text : LineRow → List ℕ
look_text row =
    codes "looks like ITCH: "
    ++ (session_name row.key.session
    ++ codes "  nbbo normalise turns its messages into quotations\n")

abbrev pub look_row : List LineRow → LineRow → List ℕ
look_row rows row =
    if is_first_of rows row && looks_like_itch rows row then look_text row else []

-- the member that the object of each line of such a session has more
abbrev pub look_member : List LineRow → LineRow → List ℕ
look_member rows row =
    if looks_like_itch rows row then codes ",\"looks_like\":\"itch\"" else []
