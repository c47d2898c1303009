use Rattle.std.proofs.Common.{[]}
use Rattle.udp_lines.proofs.Meeting.{moved_more}
use Rattle.udp_lines.specs.laws.Bringing.{brings_more}
use Rattle.udp_lines.proofs.udp_line.UdpLine.wait_for_next.Goals as goal

pub loop-preserved : goal.loop-preserved
loop-preserved g c =
    let d = g.S.DatagramIn in
    let old = c.args.self.now in
    let so_far = c.loop.invariant in
    record {
      brought =
          brings_more d.brings d.waits g.met.S.DatagramIn.waits_more old c.loop.self
          c.poll.new.self [] [] so_far.brought c.poll.ensures.brought;
      rest = moved_more old c.loop.self c.poll.new.self so_far.rest c.poll.ensures.rest;
    }

pub returns-then-poll-clause-brought : goal.returns-then-poll-clause-brought
returns-then-poll-clause-brought g c =
    let d = g.S.DatagramIn in
    brings_more d.brings d.waits g.met.S.DatagramIn.waits_more c.args.self.now c.loop.self
    c.poll.new.self [] [] c.loop.invariant.brought c.poll.ensures.brought
