use Rattle.std.proofs.Common.{ℕ, List, Err, subst}
use Rattle.venue_lines.specs.Datagrams.{AcceptsTheirs}
use Rattle.venue_lines.specs.declared.faults.TakeFault.TheVariants as faults
use Rattle.venue_lines.proofs.TheirPackets.{faulty, theirs}
use Rattle.venue_lines.proofs.locks.VenueLocks.take_datagram.Goals as goal

pub returns-in-Err-take_packet-clause-accepts : goal.returns-in-Err-take_packet-clause-accepts
returns-in-Err-take_packet-clause-accepts g c =
    let spelled = c.in-Ok.ensures.spelled in
    subst (λ (bytes : List ℕ). AcceptsTheirs g.G.Genuine
    c.args.seat.now.venue bytes
    (Err (faults.Line c.in-Err-take_packet.fault))) c.bytes.ensures
    (theirs g.G.Genuine c.args.seat.now.venue c.bytes.result.now c.in-Ok.packet
    spelled.0 c.in-Err-take_packet.fault
    spelled.1 c.in-Err-take_packet.ensures.accepts)

pub returns-in-Err-clause-accepts : goal.returns-in-Err-clause-accepts
returns-in-Err-clause-accepts g c =
    subst (λ (bytes : List ℕ). AcceptsTheirs g.G.Genuine
    c.args.seat.now.venue bytes
    (Err (faults.Packet c.in-Err.fault))) c.bytes.ensures
    (faulty g.G.Genuine c.args.seat.now.venue c.bytes.result.now c.in-Err.fault
    c.in-Err.ensures.fault)
