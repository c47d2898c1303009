-- What standard error has of lines while a run goes on, and at its end. The texts are this
-- project's own.
use Rattle.std.specs.Prelude.{◌≡◌, ℕ, ◌==◌, Bool, true, false, List, [], ◌∷◌, ◌++◌, Option, Some, None, flat_map, map, if◌then◌else◌, codes, decimal}
use Rattle.feed_types.specs.declared.line.LineId.{LineId}
use Rattle.feed_types.specs.declared.line.LineId.TheVariants.{A, B, Recovery}
use Rattle.text_out.specs.Devices.{Writing}
use Rattle.text_out.specs.StandardError.{SaysEach}
use Rattle.run_notes.specs.SessionNames.{name_texts}
use Rattle.run_settings.specs.VenueNames.{venue_text}
use Rattle.run_settings.specs.declared.venue_names.VenueNames.{VenueNames}
use Rattle.run_watches.specs.declared.line_news.LineChange.{LineChange}
use Rattle.run_watches.specs.declared.line_news.LineChange.TheVariants as changes
use Rattle.run_watches.specs.declared.line_news.LineCounted.{LineCounted}
use Rattle.run_watches.specs.declared.line_news.LineCounted.TheVariants as kinds
use Rattle.run_watches.specs.declared.line_news.LineNews.{LineNews}
use Rattle.run_watches.specs.declared.line_news.LineTotal.{LineTotal}

abbrev pub letter_text : LineId → List ℕ
letter_text A = codes " A"
letter_text B = codes " B"
letter_text Recovery = codes " R"

-- which line it is: the venue's name or number, and the line's letter
abbrev pub line_name_texts : VenueNames → ℕ → LineId → List (List ℕ)
line_name_texts names venue line = venue_text names venue ∷ letter_text line ∷ []

-- ---- what has happened to a line

-- up to a session's name or a number, where that is told
abbrev pub change_text : LineChange → List ℕ
change_text changes.Ended = codes " ended by an end of session\n"
change_text (changes.EndedWith session) = codes " ended with session "
change_text changes.ReadOut = codes " ended by --datagrams\n"
change_text changes.Failed = codes " failed\n"
change_text changes.Unsent = codes " can't send requests\n"
change_text changes.Passed = codes " goes on after an end of session\n"
change_text changes.Foreign = codes " passes over datagrams of senders not in --from\n"
change_text changes.Withheld = codes " withholds datagrams that aren't plausible\n"
change_text changes.HeldBack = codes " holds requests back\n"
change_text (changes.Stranger session) = codes " brings session "
change_text (changes.Silent ms) = codes " has brought nothing for "
change_text (changes.Unjoined ms) = codes " has brought nothing for "
change_text changes.Heard = codes " is heard again\n"
change_text changes.Unheard = codes " had no datagram\n"

-- a session's name, or a number, and what is after it
abbrev pub named_session_texts : (session end : List ℕ) → List (List ℕ)
named_session_texts session end = name_texts session ++ end ∷ []

abbrev pub ms_texts : ℕ → (end : List ℕ) → List (List ℕ)
ms_texts ms end = decimal ms ∷ end ∷ []

-- these, where they are told
abbrev pub rest_texts : LineChange → List (List ℕ)
rest_texts (changes.EndedWith session) = named_session_texts session (codes "\n")
rest_texts (changes.Stranger session) =
    named_session_texts session (codes ", which isn't its venue's\n")
rest_texts (changes.Silent ms) = ms_texts ms (codes " ms\n")
rest_texts (changes.Unjoined ms) = ms_texts ms (codes " ms, its group isn't joined\n")
rest_texts changes.Ended = []
rest_texts changes.ReadOut = []
rest_texts changes.Failed = []
rest_texts changes.Unsent = []
rest_texts changes.Passed = []
rest_texts changes.Foreign = []
rest_texts changes.Withheld = []
rest_texts changes.HeldBack = []
rest_texts changes.Heard = []
rest_texts changes.Unheard = []

abbrev pub change_texts : LineChange → List (List ℕ)
change_texts change = change_text change ∷ rest_texts change

-- in which second of the run
abbrev pub time_texts : ℕ → List (List ℕ)
time_texts second = codes "nbbo: second " ∷ decimal second ∷ codes " line " ∷ []

abbrev pub news_texts : VenueNames → LineNews → List (List ℕ)
news_texts names news =
    time_texts news.second
    ++ (line_name_texts names news.venue news.line ++ change_texts news.change)

-- how a line has ended, without a time
abbrev pub line_end_texts : VenueNames → ℕ × LineId → LineChange → List (List ℕ)
line_end_texts names line change =
    codes "nbbo: line " ∷ (line_name_texts names line.0 line.1 ++ change_texts change)

-- ---- what was counted of a line

abbrev pub verb_text : LineCounted → List ℕ
verb_text kinds.Unsent = codes " couldn't send "
verb_text kinds.Passed = codes " went on after "
verb_text kinds.Foreign = codes " passed over "
verb_text kinds.Dropped = codes " lost "
verb_text kinds.Withheld = codes " withheld "
verb_text kinds.HeldBack = codes " held back "

abbrev pub counted_text : LineCounted → ℕ → List ℕ
counted_text kinds.Unsent count =
    if count == 1 then codes " request\n" else codes " requests\n"
counted_text kinds.Passed count =
    if count == 1 then codes " end of session\n" else codes " ends of session\n"
counted_text kinds.Foreign count =
    if count == 1
    then codes " datagram of senders not in --from\n"
    else codes " datagrams of senders not in --from\n"
counted_text kinds.Dropped count =
    if count == 1
    then codes " datagram that the system dropped\n"
    else codes " datagrams that the system dropped\n"
counted_text kinds.Withheld count =
    if count == 1
    then codes " datagram that isn't plausible\n" else codes " datagrams that aren't plausible\n"
counted_text kinds.HeldBack count =
    if count == 1 then codes " request\n" else codes " requests\n"

-- how many there were of what is counted
abbrev pub counted_texts : LineTotal → List (List ℕ)
counted_texts total =
    verb_text total.counted ∷ decimal total.count ∷ counted_text total.counted total.count ∷ []

abbrev pub total_texts : VenueNames → LineTotal → List (List ℕ)
total_texts names total =
    codes "nbbo: line " ∷ (line_name_texts names total.venue total.line ++ counted_texts total)

-- what was counted of a line: the requests that couldn't be sent, the ends of session after which
-- it went on, the datagrams of other senders that it passed over, those that it withheld, the
-- requests that it held back, and the datagrams that the system dropped; the first session that it
-- brought and isn't its venue's; and whether it never brought a datagram
pub record LineTally : Type 0 where
  pub line : ℕ × LineId
  pub unsent : ℕ
  pub passed : ℕ
  pub foreign : ℕ
  pub withheld : ℕ
  pub held_back : ℕ
  pub dropped : ℕ
  pub stranger : Option (List ℕ)
  pub unheard : Bool

-- the total of a line's count, where that isn't 0
abbrev pub total_if : ℕ × LineId → LineCounted → ℕ → List LineTotal
total_if line counted count =
    if count == 0
    then []
    else record { venue = line.0; line = line.1; counted = counted; count = count } ∷ []

-- a count, where more is told
abbrev pub told_if : Bool → ℕ → ℕ
told_if tells_more count = if tells_more then count else 0

-- the totals of a line's counts that aren't 0; where no more is told, of the first three alone
abbrev pub totals_of : (tells_more : Bool) → LineTally → List LineTotal
totals_of tells_more c =
    total_if c.line kinds.Unsent c.unsent
    ++ (total_if c.line kinds.Passed c.passed
    ++ (total_if c.line kinds.Foreign c.foreign
    ++ (total_if c.line kinds.Withheld (told_if tells_more c.withheld)
    ++ (total_if c.line kinds.HeldBack (told_if tells_more c.held_back)
    ++ total_if c.line kinds.Dropped (told_if tells_more c.dropped)))))

-- the session that it brought and isn't its venue's, if there was one
abbrev pub stranger_note : Option (List ℕ) → List LineChange
stranger_note None = []
stranger_note (Some session) = changes.Stranger session ∷ []

-- that it never brought a datagram, where that is so
abbrev pub unheard_note : Bool → List LineChange
unheard_note unheard = if unheard then changes.Unheard ∷ [] else []

-- what else there is to note of a line at the end, where more is told
abbrev pub notes_of : (tells_more : Bool) → (stranger : Option (List ℕ)) → (unheard : Bool)
    → List LineChange
notes_of true stranger unheard = stranger_note stranger ++ unheard_note unheard
notes_of false stranger unheard = []

-- all texts of what was counted of a line
abbrev pub tally_texts : VenueNames → (tells_more : Bool) → LineTally → List (List ℕ)
tally_texts names tells_more c =
    flat_map (total_texts names) (totals_of tells_more c)
    ++ flat_map (line_end_texts names c.line) (notes_of tells_more c.stranger c.unheard)

-- ---- what was said

-- what else there is to note of a line
pub record SaysNotes {E : Type 0} (writing : Writing E) (names : VenueNames) (tells_more : Bool)
    (line : ℕ × LineId) (before after : E) : Type 0 where
  pub stranger : Option (List ℕ)
  pub unheard : Bool
  pub says : SaysEach writing
      (flat_map (line_end_texts names line) (notes_of tells_more stranger unheard)) before after

-- of some counts of each of these lines, in their order, the texts of those that aren't 0 and of
-- what else there is to note, and nothing else
pub record SaysTotals {E : Type 0} (writing : Writing E) (names : VenueNames) (tells_more : Bool)
    (lines : List (ℕ × LineId)) (before after : E) : Type 0 where
  pub counts : List LineTally
  pub one_each : map (λ c. c.line) counts ≡ lines
  pub says : SaysEach writing (flat_map (tally_texts names tells_more) counts) before after
