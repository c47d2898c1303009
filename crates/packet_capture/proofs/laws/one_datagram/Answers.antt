use Rattle.packet_capture.proofs.OneDatagram.{same_datagram, same_frame_fault, no_frame_fault}
use Rattle.packet_capture.proofs.EveryFrame.{carries_or_fault}
use Rattle.packet_capture.proofs.laws.one_datagram.Goals as goal

pub returns-clause-datagram : goal.returns-clause-datagram
returns-clause-datagram c = same_datagram

pub returns-clause-fault : goal.returns-clause-fault
returns-clause-fault c = same_frame_fault

pub returns-clause-not_both : goal.returns-clause-not_both
returns-clause-not_both c = no_frame_fault

pub returns-clause-one : goal.returns-clause-one
returns-clause-one c = carries_or_fault
