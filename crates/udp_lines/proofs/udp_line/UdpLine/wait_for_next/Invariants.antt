use Rattle.std.proofs.Common.{◌≡◌, []}
use Rattle.udp_lines.specs.UdpLines.{HasBrought}
use Rattle.udp_lines.proofs.udp_line.UdpLine.wait_for_next.Given as goal

abbrev pub invariant-loop : goal.invariant-loop
invariant-loop g l =
    record {
      brought : HasBrought g.S.DatagramIn.brings g.S.DatagramIn.waits l.fn.self [] l.self;
      rest : l.self ≡ record l.fn.self {
        socket = l.self.socket;
        kept = l.self.kept;
        waiting = l.self.waiting;
        answered = l.self.answered;
      };
    }
