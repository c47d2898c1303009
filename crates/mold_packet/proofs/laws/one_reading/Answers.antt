use Rattle.mold_packet.specs.laws.OneReading.{same_packet, same_rest, no_fault, same_fault}
use Rattle.mold_packet.proofs.laws.one_reading.Goals as goal

pub returns-clause-packet : goal.returns-clause-packet
returns-clause-packet c = same_packet

pub returns-clause-rest : goal.returns-clause-rest
returns-clause-rest c = same_rest

pub returns-clause-no_fault : goal.returns-clause-no_fault
returns-clause-no_fault c = no_fault

pub returns-clause-fault : goal.returns-clause-fault
returns-clause-fault c = same_fault
