use Rattle.mold_packet.specs.laws.EveryReading.{read_or_fault, request_or_fault}
use Rattle.mold_packet.proofs.laws.bytes_read_or_have_a_fault.Goals as goal

pub returns-clause-packet : goal.returns-clause-packet
returns-clause-packet c = read_or_fault

pub returns-clause-request : goal.returns-clause-request
returns-clause-request c = request_or_fault
