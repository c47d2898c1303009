-- The sums over the gaps of a line. A sum stays at 2^64 - 1 once it is there.
use Rattle.std.specs.Prelude.{◌≡◌, ℕ, ◌-◌, Bool, true, false, List, length, max, min, Option, Some}
use Rattle.std.specs.List.{count_by, fold, sum_by}
use Rattle.feed_types.specs.FullCounts.{count_after}
use Rattle.line_gaps.specs.declared.gap_sums.GapEnds.{GapEnds}
use Rattle.line_gaps.specs.declared.gap_sums.GapSums.{GapSums}
use Rattle.line_gaps.specs.declared.open_gap.EndedGap.{EndedGap}
use Rattle.line_gaps.specs.declared.open_gap.GapEnd.{GapEnd}
use Rattle.line_gaps.specs.declared.open_gap.GapEnd.TheVariants as ends

abbrev pub full : ℕ → ℕ
full n = min n 18446744073709551615

-- two causes are the same
abbrev pub is_same_end : GapEnd → GapEnd → Bool
is_same_end ends.A ends.A = true
is_same_end ends.B ends.B = true
is_same_end ends.Recovery ends.Recovery = true
is_same_end ends.Skip ends.Skip = true
is_same_end ends.Before ends.Before = true
is_same_end ends.Open ends.Open = true
is_same_end one other = false

-- how many of the gaps ended so
abbrev pub ended_by : GapEnd → List EndedGap → ℕ
ended_by by gaps = full (count_by (λ g. is_same_end by g.by) gaps)

pub record AreEndsOf (gaps : List EndedGap) (counts : GapEnds) : Type 0 where
  pub a : counts.a ≡ ended_by ends.A gaps
  pub b : counts.b ≡ ended_by ends.B gaps
  pub recovery : counts.recovery ≡ ended_by ends.Recovery gaps
  pub skip : counts.skip ≡ ended_by ends.Skip gaps
  pub before : counts.before ≡ ended_by ends.Before gaps
  pub «open» : counts.«open» ≡ ended_by ends.Open gaps

-- how long it took, where both times are known
abbrev pub time_between : Option ℕ → Option ℕ → ℕ
time_between (Some began) (Some ended) = ended - began
time_between _ _ = 0

abbrev pub time_taken : EndedGap → ℕ
time_taken g = time_between g.gap.began g.ended

pub record AreSumsOf (gaps : List EndedGap) (sums : GapSums) : Type 0 where
  pub found : sums.found ≡ full (length gaps)
  pub left_out : sums.left_out ≡ full (sum_by (λ g. g.gap.messages) gaps)
  pub longest : sums.longest ≡ fold (λ most g. max most (time_taken g)) 0 gaps
  pub ended_by : AreEndsOf gaps sums.ended_by
  pub given_up : sums.given_up ≡ full (sum_by (λ g. g.given_up) gaps)

-- what a line never brought: left out and not late, and past its highest number
abbrev pub lost_of : GapSums → ℕ
lost_of sums = count_after (sums.left_out - sums.late) sums.tail
