use Rattle.std.proofs.Common.{refl}
use Rattle.line_gaps.proofs.EndLemmas.{venue_ends}
use Rattle.line_gaps.proofs.LineLemmas.{all_over}
use Rattle.line_gaps.proofs.venue_gaps.VenueGaps.pass_each.Goals as goal

pub returns : goal.returns
returns c = record {
  lost = refl;
  far = refl;
  come = refl;
  ends = venue_ends _ _ _ _ _ _ c.take.ensures.ends c.take-2.ensures.ends c.take-3.ensures.ends;
  a = c.take.ensures.takes;
  b = c.take-2.ensures.takes;
  all = c.take-3.ensures.takes;
  ended = all_over _ c.take.new.ended.gaps.items c.take-2.new.ended.gaps.items _ _ _ _
      c.take.ensures.ended c.take-2.ensures.ended c.take-3.ensures.ended;
}
