use Rattle.std.proofs.Common.{[], ◌∷◌}
use Rattle.std.specs.declared.net.socket_addr.SocketAddr.TheVariants.{V4}
use Rattle.udp_lines.proofs.datagram_in.UdpSocketDatagramIn.receive_any.Goals as goal

-- of a socket of the system nothing is known, so any address will do
pub returns-in-Ok-clause-brings : goal.returns-in-Ok-clause-brings
returns-in-Ok-clause-brings c = record {
  sender = V4 (record { ip = record { octets = 0 ∷ 0 ∷ 0 ∷ 0 ∷ [] }; port = 0 });
  brought = tt;
}
