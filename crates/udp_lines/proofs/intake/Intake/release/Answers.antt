use Rattle.std.proofs.Common.{Some, rules}
use Rattle.udp_lines.proofs.Meeting.{released}
use Rattle.udp_lines.specs.UdpLines.{held_in, kept_in, sorting_by}
use Rattle.udp_lines.proofs.intake.Intake.release.Goals as goal

pub returns-in-Some-clause-met : goal.returns-in-Some-clause-met
returns-in-Some-clause-met g c =
    let d = g.S.DatagramIn in
    let old = c.args.self.now in
    released d.brings d.waits g.met.S.DatagramIn.waits_not (sorting_by old)
    old.line_socket.socket (kept_in old) (Some c.in-Some.datagram.all.items)
    (held_in c.take.new.self) c.bring_held.new.self.highest c.requires c.bring_held.ensures.kept
    (search (rules, c.in-Some.is, c.take.ensures.value))
    (search (rules, c.take.ensures.after))
