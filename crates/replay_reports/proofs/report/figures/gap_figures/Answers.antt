use Rattle.std.proofs.Common.{refl}
use Rattle.replay_reports.proofs.Putting.{and_then}
use Rattle.replay_reports.proofs.report.figures.gap_figures.Goals as goal

pub returns : goal.returns
returns c =
    and_then c.count.ensures (and_then c.count-2.ensures (and_then c.count-3.ensures
    (and_then c.count-4.ensures (and_then c.count-5.ensures (and_then c.count-6.ensures
    (and_then c.count-7.ensures (and_then c.count-8.ensures (and_then c.count-9.ensures
    (and_then c.count-10.ensures (and_then c.count-11.ensures (and_then c.count-12.ensures
    (and_then c.count-13.ensures refl))))))))))))
