-- What a line's gaps make of a packet, by the numbers of the venue that are missing.
use Rattle.std.specs.Prelude.{◌≡◌, ℕ, ◌+◌, ◌-◌, ◌≤◌, Bool, false, max, List, [], ◌++◌, map, is_some, ◌||◌, Option, None, Some, if◌then◌else◌}
use Rattle.std.specs.List.{filter, fold}
use Rattle.feed_types.specs.FullCounts.{count_after}
use Rattle.line_gaps.specs.declared.gap_line.GapLine.{GapLine}
use Rattle.line_gaps.specs.declared.heard_packet.TimedPacket.{TimedPacket}
use Rattle.line_gaps.specs.declared.line_gaps.GapPass.{GapPass}
use Rattle.line_gaps.specs.declared.line_gaps.LineGaps.{LineGaps}
use Rattle.line_gaps.specs.declared.lost_numbers.LostNumbers.{LostNumbers}
use Rattle.line_gaps.specs.declared.open_gap.EndedGap.{EndedGap}
use Rattle.line_gaps.specs.declared.open_gap.GapEnd.TheVariants as ends
use Rattle.line_gaps.specs.declared.open_gap.OpenGap.{OpenGap}
use Rattle.line_gaps.specs.Ends.{end_on, gap_over, is_open_gap, over_new, over_now}
use Rattle.line_gaps.specs.Gaps.{highest_with, last_number_told, of_line}
use Rattle.line_gaps.specs.OpenGaps.{add_gap, gap_passed}
use Rattle.line_gaps.specs.Sums.{AreSumsOf}

-- gaps of which a number is missing
abbrev pub still_open : LostNumbers → List OpenGap → List OpenGap
still_open lost gaps = filter (is_open_gap lost) gaps

-- a packet tells of the number below its own, if there is one
abbrev pub Reaches : Option TimedPacket → Type 0
Reaches None = Unit
Reaches (Some packet) = packet.number ≤ last_number_told packet.number packet.count + 1

-- A packet, if it is of the line, begins a gap, and the line's highest number is at least its last.
pub record PassesLine (own : Option TimedPacket) (lost : LostNumbers) (old new : LineGaps)
    : Type 0 where
  pub line : new.line ≡ old.line
  pub begun : new.begun ≡ (is_some own || old.begun)
  pub highest : new.highest ≡ highest_with old.highest own
  pub «open» : new.«open».items
      ≡ fold add_gap old.«open».items (still_open lost (gap_passed old.highest own))
  pub reaches : Reaches own

-- what ends of the gaps that are open, where a number that was missing came
abbrev pub pass_of : TimedPacket → GapPass
pass_of packet = record { by = end_on packet.line; time = packet.time }

abbrev pub kept_open : Bool → LostNumbers → List OpenGap → List OpenGap
kept_open filled lost gaps = if filled then still_open lost gaps else gaps

abbrev pub over_if : Bool → GapLine → LostNumbers → GapPass → List OpenGap → List EndedGap
over_if filled line lost pass gaps = if filled then over_now line lost pass gaps else []

-- the gaps that a packet of the venue ends, which filled what was missing or didn't
abbrev pub gaps_over_with : TimedPacket → Bool → LostNumbers → LineGaps → List EndedGap
gaps_over_with packet filled lost old =
    over_if filled old.line lost (pass_of packet) old.«open».items
    ++ over_new old.line lost (gap_passed old.highest (of_line old.line (Some packet)))

-- A packet of the venue ends gaps of the line, and then passes it.
pub record TakesLine (packet : TimedPacket) (filled : Bool) (lost : LostNumbers)
    (old new : LineGaps) : Type 0 where
  pub line : new.line ≡ old.line
  pub begun : new.begun ≡ (is_some (of_line old.line (Some packet)) || old.begun)
  pub highest : new.highest ≡ highest_with old.highest (of_line old.line (Some packet))
  pub «open» : new.«open».items
      ≡ fold add_gap (kept_open filled lost old.«open».items)
      (still_open lost (gap_passed old.highest (of_line old.line (Some packet))))
  pub reaches : Reaches (of_line old.line (Some packet))
  pub sums : (rows : List EndedGap) → AreSumsOf rows old.sums
      → AreSumsOf (rows ++ gaps_over_with packet filled lost old) new.sums

-- the gaps that a skip ends
abbrev pub over_skipped : Option ℕ → LostNumbers → LineGaps → List EndedGap
over_skipped time lost old =
    over_now old.line lost (record { by = ends.Skip; time = time }) old.«open».items

-- the number to which a skip goes, where it joins the session: no message of it came before
abbrev pub joined_at : Bool → ℕ → Option ℕ
joined_at has_come number = if has_come then None else Some number

-- a line of which nothing counted begins there
abbrev pub highest_joined : Bool → ℕ → Option ℕ → ℕ
highest_joined false highest (Some number) = max highest (number - 1)
highest_joined begun highest _ = highest

-- A skip ends gaps, and a line of which nothing counted begins where it joined the session, if it
-- did.
pub record SkipsLine (joined : Option ℕ) (time : Option ℕ) (lost : LostNumbers)
    (old new : LineGaps) : Type 0 where
  pub line : new.line ≡ old.line
  pub begun : new.begun ≡ old.begun
  pub highest : new.highest ≡ highest_joined old.begun old.highest joined
  pub «open» : new.«open».items ≡ still_open lost old.«open».items
  pub sums : (rows : List EndedGap) → AreSumsOf rows old.sums
      → AreSumsOf (rows ++ over_skipped time lost old) new.sums

-- the gaps that are open as the session or the capture ends
abbrev pub over_closed : LostNumbers → LineGaps → List EndedGap
over_closed lost old =
    map (gap_over old.line lost (record { by = ends.Open; time = None })) old.«open».items

-- All gaps that are open end.
pub record ClosesLine (lost : LostNumbers) (old new : LineGaps) : Type 0 where
  pub line : new.line ≡ old.line
  pub begun : new.begun ≡ old.begun
  pub highest : new.highest ≡ old.highest
  pub «open» : new.«open».items ≡ []
  pub tail : new.sums.tail ≡ count_after old.sums.tail (lost.highest - old.highest)
  pub sums : (rows : List EndedGap) → AreSumsOf rows old.sums
      → AreSumsOf (rows ++ over_closed lost old) new.sums
