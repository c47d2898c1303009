use Rattle.udp_lines.proofs.line_socket.try_receive.Given as goal

abbrev pub invariant-loop : goal.invariant-loop
invariant-loop g l = g.S.DatagramIn.waits l.fn.socket l.socket
