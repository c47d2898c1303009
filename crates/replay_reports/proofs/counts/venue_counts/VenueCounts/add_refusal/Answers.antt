use Rattle.replay_reports.proofs.Counting.{refused_a, refused_b, refused_recovery}
use Rattle.replay_reports.proofs.counts.venue_counts.VenueCounts.add_refusal.Goals as goal

pub returns-in-A : goal.returns-in-A
returns-in-A c = λ venue before is.
    refused_a c.args.self.now venue c.args.fault before c.add_refusal.new.self is c.args.line
    c.in-A.is (c.add_refusal.ensures c.args.line venue)

pub returns-in-B : goal.returns-in-B
returns-in-B c = λ venue before is.
    refused_b c.args.self.now venue c.args.fault before c.add_refusal-in-B.new.self is c.args.line
    c.in-B.is (c.add_refusal-in-B.ensures c.args.line venue)

pub returns-in-Recovery : goal.returns-in-Recovery
returns-in-Recovery c = λ venue before is.
    refused_recovery c.args.self.now venue c.args.fault before
    c.add_refusal-in-Recovery.new.self is c.args.line c.in-Recovery.is
    (c.add_refusal-in-Recovery.ensures c.args.line venue)
