use Rattle.line_gaps.proofs.EndLemmas.{ends_both, longer}
use Rattle.line_gaps.proofs.LineLemmas.{over_both, takes_line}
use Rattle.line_gaps.proofs.VenueLemmas.{sums_of_ended}
use Rattle.line_gaps.proofs.line_gaps.LineGaps.take.Goals as goal

pub returns : goal.returns
returns c =
    let old = c.args.self.now in
    let mid = c.end_filled.new.self in
    let new = c.pass_own.new.self in
    let first = c.end_filled.ensures in
    let next = c.pass_own.ensures in
    let lost = c.args.lost.now in
    let packet = c.args.packet.now in
    let ends = ends_both 16 1 old mid new c.args.ended.now c.end_filled.new.ended
    c.pass_own.new.ended first.ends next.ends in
    let ended = over_both packet c.args.is_filled lost old mid c.args.ended.now.gaps.items
    c.end_filled.new.ended.gaps.items c.pass_own.new.ended.gaps.items first.kept first.ended
    next.ended in
    record {
      ends = ends;
      takes = takes_line packet c.args.is_filled lost old mid new first.kept first.«open»
          next.passes
          (λ rows are. sums_of_ended 17 old new c.args.ended.now c.pass_own.new.ended _ rows ends
          ended are);
      ended = ended;
    }

pub pass_own-requires : goal.pass_own-requires
pass_own-requires c = longer c.args.ended.now c.end_filled.new.ended c.end_filled.ensures.ends.more
    c.requires c.end_filled.ensures.ends.ended c.end_filled.ensures.ends.few
