use Rattle.packet_capture.proofs.FramesBack.{ipv4_back, ipv6_back}
use Rattle.packet_capture.proofs.laws.frames_read_back.Goals as goal

pub returns-clause-ipv4 : goal.returns-clause-ipv4
returns-clause-ipv4 c = ipv4_back

pub returns-clause-ipv6 : goal.returns-clause-ipv6
returns-clause-ipv6 c = ipv6_back
