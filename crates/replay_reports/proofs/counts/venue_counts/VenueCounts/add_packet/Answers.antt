use Rattle.replay_reports.proofs.Counting.{heard_a, heard_b, heard_recovery}
use Rattle.replay_reports.proofs.counts.venue_counts.VenueCounts.add_packet.Goals as goal

pub returns-in-A : goal.returns-in-A
returns-in-A c = λ venue number count before is.
    heard_a c.args.self.now venue number count c.args.bytes c.args.answer.now before
    c.add_packet.new.self is c.args.line c.in-A.is
    (c.add_packet.ensures c.args.line venue number count)

pub returns-in-B : goal.returns-in-B
returns-in-B c = λ venue number count before is.
    heard_b c.args.self.now venue number count c.args.bytes c.args.answer.now before
    c.add_packet-in-B.new.self is c.args.line c.in-B.is
    (c.add_packet-in-B.ensures c.args.line venue number count)

pub returns-in-Recovery : goal.returns-in-Recovery
returns-in-Recovery c = λ venue number count before is.
    heard_recovery c.args.self.now venue number count c.args.bytes c.args.answer.now before
    c.add_packet-in-Recovery.new.self is c.args.line c.in-Recovery.is
    (c.add_packet-in-Recovery.ensures c.args.line venue number count)
