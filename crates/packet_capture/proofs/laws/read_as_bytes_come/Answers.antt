use Rattle.packet_capture.proofs.Longer.{piece_longer, fault_longer}
use Rattle.packet_capture.proofs.laws.read_as_bytes_come.Goals as goal

pub returns-clause-piece : goal.returns-clause-piece
returns-clause-piece c = piece_longer

pub returns-clause-fault : goal.returns-clause-fault
returns-clause-fault c = fault_longer
