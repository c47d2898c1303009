-- What becomes of the gaps of a line, by the numbers of the venue that are missing.
use Rattle.std.specs.Prelude.{◌≡◌, ℕ, Bool, not, ◌≤◌, List, [], ◌∷◌, ◌++◌, length, map, Option, if◌then◌else◌}
use Rattle.std.specs.List.{filter}
use Rattle.feed_types.specs.declared.line.LineId.{LineId}
use Rattle.feed_types.specs.declared.line.LineId.TheVariants as on
use Rattle.feed_types.specs.FullCounts.{count_after}
use Rattle.line_gaps.specs.declared.ended_gaps.EndedGaps.{EndedGaps}
use Rattle.line_gaps.specs.declared.gap_line.GapLine.{GapLine}
use Rattle.line_gaps.specs.declared.gap_line.GapLine.TheVariants as lines
use Rattle.line_gaps.specs.declared.gap_sums.GapSums.{GapSums}
use Rattle.line_gaps.specs.declared.line_gaps.GapPass.{GapPass}
use Rattle.line_gaps.specs.declared.line_gaps.LineGaps.{LineGaps}
use Rattle.line_gaps.specs.declared.lost_numbers.LostNumbers.{LostNumbers}
use Rattle.line_gaps.specs.declared.number_run.NumberRun.{NumberRun}
use Rattle.line_gaps.specs.declared.open_gap.EndedGap.{EndedGap}
use Rattle.line_gaps.specs.declared.open_gap.GapEnd.{GapEnd}
use Rattle.line_gaps.specs.declared.open_gap.GapEnd.TheVariants as ends
use Rattle.line_gaps.specs.declared.open_gap.OpenGap.{OpenGap}
use Rattle.line_gaps.specs.declared.venue_gaps.VenueGaps.{VenueGaps}
use Rattle.line_gaps.specs.Sums.{AreSumsOf}
use Rattle.line_gaps.specs.Runs.{len_of, meets_runs, sum_in}

-- a gap that ended
abbrev pub gap_over : GapLine → LostNumbers → GapPass → OpenGap → EndedGap
gap_over line lost pass gap = record {
  line = line;
  gap = gap;
  given_up = sum_in lost.given_up.runs.items gap.run;
  ended = pass.time;
  by = pass.by;
}

-- the gap that two make
abbrev pub joined_gap : OpenGap → OpenGap → OpenGap
joined_gap one next = record {
  run = record { first = one.run.first; last = next.run.last };
  messages = count_after one.messages next.messages;
  began = one.began;
}

-- one of the gap's numbers is missing
abbrev pub is_open_gap : LostNumbers → OpenGap → Bool
is_open_gap lost gap = meets_runs lost.missing.runs.items gap.run

-- the gap of the numbers that a packet passes over
abbrev pub open_gap_of : NumberRun → Option ℕ → OpenGap
open_gap_of run time = record { run = run; messages = len_of run; began = time }

-- what ends it where none of its numbers is missing
abbrev pub end_at_once : LostNumbers → NumberRun → GapEnd
end_at_once lost run =
    if meets_runs lost.given_up.runs.items run then ends.Skip else ends.Before

-- it is open, or over at once
abbrev pub opened : LostNumbers → NumberRun → Option ℕ → List OpenGap
opened lost run time =
    if is_open_gap lost (open_gap_of run time) then open_gap_of run time ∷ [] else []

abbrev pub over_at_once : GapLine → LostNumbers → NumberRun → Option ℕ → List EndedGap
over_at_once line lost run time =
    if is_open_gap lost (open_gap_of run time) then []
    else gap_over line lost (record { by = end_at_once lost run; time = time })
    (open_gap_of run time) ∷ []

-- what ends a gap that a packet of the line ends
abbrev pub end_on : LineId → GapEnd
end_on on.A = ends.A
end_on on.B = ends.B
end_on on.Recovery = ends.Recovery

-- of gaps those that are over, and of those that begin
abbrev pub over_now : GapLine → LostNumbers → GapPass → List OpenGap → List EndedGap
over_now line lost pass gaps =
    map (gap_over line lost pass) (filter (λ g. not (is_open_gap lost g)) gaps)

abbrev pub over_first : GapLine → LostNumbers → OpenGap → EndedGap
over_first line lost gap =
    gap_over line lost (record { by = end_at_once lost gap.run; time = gap.began }) gap

abbrev pub over_new : GapLine → LostNumbers → List OpenGap → List EndedGap
over_new line lost gaps =
    map (over_first line lost) (filter (λ g. not (is_open_gap lost g)) gaps)

-- All else of a line's gaps stays.
pub record KeepsLine (old new : LineGaps) : Type 0 where
  pub line : new.line ≡ old.line
  pub begun : new.begun ≡ old.begun
  pub highest : new.highest ≡ old.highest
  pub passed : new.passed ≡ old.passed

-- Gaps of the line ended, at most `most`, and its sums are those of these gaps, too.
pub record EndsGaps (most : ℕ) (old new : LineGaps) (before after : EndedGaps) : Type 0 where
  pub more : List EndedGap
  pub ended : after.gaps.items ≡ before.gaps.items ++ more
  pub few : length more ≤ most
  pub sums : (gaps : List EndedGap) → AreSumsOf gaps old.sums → AreSumsOf (gaps ++ more) new.sums
  pub line : new.line ≡ old.line

-- Gaps of line A ended, then of line B, then of all lines, and the sums are those of them, too.
pub record EndsVenue (old new : VenueGaps) (before after : EndedGaps) : Type 0 where
  pub a : List EndedGap
  pub b : List EndedGap
  pub all : List EndedGap
  pub ended : after.gaps.items ≡ before.gaps.items ++ (a ++ (b ++ all))
  pub sums_a : (gaps : List EndedGap) → AreSumsOf gaps old.a.sums
      → AreSumsOf (gaps ++ a) new.a.sums
  pub sums_b : (gaps : List EndedGap) → AreSumsOf gaps old.b.sums
      → AreSumsOf (gaps ++ b) new.b.sums
  pub sums_all : (gaps : List EndedGap) → AreSumsOf gaps old.all.sums
      → AreSumsOf (gaps ++ all) new.all.sums

-- the sums of a line's gaps, or of those of all lines
abbrev pub sums_on : GapLine → VenueGaps → GapSums
sums_on lines.A gaps = gaps.a.sums
sums_on lines.B gaps = gaps.b.sums
sums_on lines.All gaps = gaps.all.sums

-- how many messages recovery brought first
abbrev pub recovered_on : LineId → ℕ → ℕ
recovered_on on.Recovery new = new
recovered_on line new = 0
