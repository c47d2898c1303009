use Rattle.line_gaps.proofs.EndLemmas.{venue_ends}
use Rattle.line_gaps.proofs.LineLemmas.{all_over}
use Rattle.line_gaps.proofs.VenueLemmas.{closes_line}
use Rattle.line_gaps.proofs.venue_gaps.VenueGaps.close.Goals as goal

pub returns-clause-ends : goal.returns-clause-ends
returns-clause-ends c =
    venue_ends _ _ _ _ _ _ c.close.ensures.ends c.close-2.ensures.ends
    c.close-3.ensures.ends

pub returns-clause-a : goal.returns-clause-a
returns-clause-a c =
    let said = c.close.ensures in
    closes_line c.args.self.now.lost _ _ said.kept said.«open» said.tail said.sums

pub returns-clause-b : goal.returns-clause-b
returns-clause-b c =
    let said = c.close-2.ensures in
    closes_line c.args.self.now.lost _ _ said.kept said.«open» said.tail said.sums

pub returns-clause-all : goal.returns-clause-all
returns-clause-all c =
    let said = c.close-3.ensures in
    closes_line c.args.self.now.lost _ _ said.kept said.«open» said.tail said.sums

pub returns-clause-ended : goal.returns-clause-ended
returns-clause-ended c =
    all_over _ c.close.new.ended.gaps.items c.close-2.new.ended.gaps.items _ _ _ _
    c.close.ensures.ended c.close-2.ensures.ended c.close-3.ensures.ended
