use Rattle.std.proofs.Common.{◌≡◌, ◌+◌, ◌++◌, List, length, map, take}
use Rattle.line_gaps.specs.declared.open_gap.EndedGap.{EndedGap}
use Rattle.line_gaps.specs.Ends.{KeepsLine, gap_over}
use Rattle.line_gaps.specs.Sums.{AreSumsOf}
use Rattle.line_gaps.proofs.line_gaps.LineGaps.end_each.Given as goal

abbrev pub invariant-loop-gap : goal.invariant-loop-gap
invariant-loop-gap l = record {
  ended : l.ended.gaps.items ≡ l.fn.ended.gaps.items
      ++ map (gap_over l.fn.self.line l.lost l.pass) (take l.gap-index l.gaps);
  few : length l.ended.gaps.items ≡ length l.fn.ended.gaps.items + l.gap-index;
  sums : (rows : List EndedGap) → AreSumsOf rows l.fn.self.sums
      → AreSumsOf (rows ++ map (gap_over l.fn.self.line l.lost l.pass) (take l.gap-index l.gaps))
      l.self.sums;
  merged : l.self.sums.merged ≡ l.fn.self.sums.merged;
  tail : l.self.sums.tail ≡ l.fn.self.sums.tail;
  same : l.self.«open» ≡ l.fn.self.«open»;
  kept : KeepsLine l.fn.self l.self;
}
