use Rattle.std.proofs.Common.{ap}
use Rattle.udp_lines.specs.UdpLines.{UdpLineState}
use Rattle.udp_lines.proofs.Waiting.{has_awaited, moved_on}
use Rattle.udp_lines.proofs.udp_line.UdpLineLineSourceAnything.await_next.Goals as goal

pub returns-clause-awaited : goal.returns-clause-awaited
returns-clause-awaited g c =
    let new = c.poll.new.self in
    has_awaited c.args.self.now c.read_on.new.self c.end_in_time.new.self new
    c.read_on.ensures.looked c.end_in_time.ensures.in_time
    (ap (λ (x : UdpLineState g.row.S.Denot). x.left) c.poll.ensures.rest)
    (ap (λ (x : UdpLineState g.row.S.Denot). x.ended) c.poll.ensures.rest)

pub returns-clause-rest : goal.returns-clause-rest
returns-clause-rest g c =
    moved_on c.args.self.now c.read_on.new.self c.end_in_time.new.self c.poll.new.self
    c.read_on.ensures.rest c.end_in_time.ensures.rest c.poll.ensures.rest
