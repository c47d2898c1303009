use Rattle.packet_capture.proofs.FoundFault.{frame_fault}
use Rattle.packet_capture.proofs.datagram.read_datagram.Goals as goal

pub returns-in-Ok-clause-fault : goal.returns-in-Ok-clause-fault
returns-in-Ok-clause-fault c =
    frame_fault c.args.link c.args.frame.now c.in-Ok.packet.now c.in-Some-from_number.link
    c.in-Ok.version c.in-Some-from_number.ensures.found c.in-Ok.ensures.found
    c.in-Ok.ensures.packet c.read_packet.result c.read_packet.ensures.fault
