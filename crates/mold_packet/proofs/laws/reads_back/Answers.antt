use Rattle.mold_packet.proofs.ReadsBack.{packet_back, request_back}
use Rattle.mold_packet.proofs.laws.reads_back.Goals as goal

pub returns-clause-packet : goal.returns-clause-packet
returns-clause-packet c = packet_back

pub returns-clause-request : goal.returns-clause-request
returns-clause-request c = request_back
