use Rattle.std.proofs.Common.{ap}
use Rattle.std.specs.List.{count_by}
use Rattle.journal_book.specs.Changes.{notice_of}
use Rattle.replay_reports.specs.counts.Counts.{leads_bid, leads_offer}
use Rattle.replay_reports.proofs.Counting.{best_counted}
use Rattle.replay_reports.proofs.counts.best_counts.BestCounts.add.Goals as goal

pub returns : goal.returns
returns c = λ before is.
    best_counted c.args.self.now c.add.new.self c.count_best.new.counts c.count_best-2.new.counts
    (notice_of c.args.number c.args.change.now) before is
    (c.add.ensures before (ap (λ b. b.states) is))
    (c.count_best.ensures (λ venue. count_by (leads_bid venue) before) (ap (λ b. b.bids) is))
    (c.count_best-2.ensures (λ venue. count_by (leads_offer venue) before)
    (ap (λ b. b.offers) is))
