use Rattle.mold_packet.proofs.OneRequest.{same_request, no_request_fault, same_request_fault}
use Rattle.mold_packet.proofs.laws.one_request.Goals as goal

pub returns-clause-request : goal.returns-clause-request
returns-clause-request c = same_request

pub returns-clause-no_fault : goal.returns-clause-no_fault
returns-clause-no_fault c = no_request_fault

pub returns-clause-fault : goal.returns-clause-fault
returns-clause-fault c = same_request_fault
