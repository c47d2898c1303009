-- Whether a session is a venue of the words: it is where it came at two addresses and ports, at
-- neither of them after another session, and a list can have its name.
use Rattle.std.specs.Prelude.{ℕ, Bool, false, ◌&&◌, List, [], ◌∷◌, ◌++◌, codes, filter, find, Option, None, Some, if◌then◌else◌}
use Rattle.line_discovery.specs.declared.line_row.LineRow.{LineRow}
use Rattle.line_discovery.specs.declared.standing.Standing.{Standing}
use Rattle.line_discovery.specs.declared.standing.Standing.TheVariants.{Follows, Venue, OneLine, ManyLines, SecondSession, BadName}
use Rattle.line_discovery.specs.Keys.{same_key, same_session}
use Rattle.line_discovery.specs.Places.{other_key, session_name}
use Rattle.line_discovery.specs.SessionWords.{can_be_listed}

-- the same session
abbrev pub is_of_session : LineRow → LineRow → Bool
is_of_session row r = same_session r.key.session row.key.session

-- the rows of a row's session, in order
abbrev pub session_lines : List LineRow → LineRow → List LineRow
session_lines rows row = filter (is_of_session row) rows

-- the same address and port
abbrev pub is_at_place : LineRow → LineRow → Bool
is_at_place row r = same_key (other_key r.key) (other_key row.key)

abbrev pub is_this : LineRow → Option LineRow → Bool
is_this row None = false
is_this row (Some r) = same_key r.key row.key

-- the first row at its address and port
abbrev pub is_first_at : List LineRow → LineRow → Bool
is_first_at rows row = is_this row (find (is_at_place row) rows)

-- a session with just these two rows
abbrev pub pair_standing : List LineRow → LineRow → LineRow → Standing
pair_standing rows row other =
    if is_first_at rows row && is_first_at rows other
    then (if can_be_listed (session_name row.key.session) then Venue other else BadName)
    else SecondSession

-- a session with this first row, and these others
abbrev pub standing_with : List LineRow → LineRow → List LineRow → Standing
standing_with rows row [] = OneLine
standing_with rows row (other ∷ []) = pair_standing rows row other
standing_with rows row (other ∷ third ∷ more) = ManyLines

-- a row of a session with these rows: its first has the standing of the session
abbrev pub standing_by : List LineRow → LineRow → List LineRow → Standing
standing_by rows row [] = Follows
standing_by rows row (first ∷ others) =
    if same_key first.key row.key then standing_with rows row others else Follows

abbrev pub standing_of : List LineRow → LineRow → Standing
standing_of rows row = standing_by rows row (session_lines rows row)

-- ---- what is said of those that the words leave out

abbrev pub left_row : Option (List ℕ) → List ℕ → List ℕ
left_row session reason =
    codes "left out of the words: "
    ++ (session_name session ++ (codes "  " ++ (reason ++ codes "\n")))

abbrev pub left_by : LineRow → Standing → List ℕ
left_by row Follows = []
left_by row (Venue other) = []
left_by row OneLine = left_row row.key.session (codes "came at one address and port")
left_by row ManyLines =
    left_row row.key.session (codes "came at more than two addresses and ports")
left_by row SecondSession =
    left_row row.key.session (codes "came after another session at an address and port")
left_by row BadName =
    left_row row.key.session (codes "is all spaces, or has a comma or a quotation mark")

abbrev pub left_of : List LineRow → LineRow → List ℕ
left_of rows row = left_by row (standing_of rows row)
