use Rattle.udp_listening.proofs.Binding.{HasAdded}
use Rattle.udp_listening.proofs.sockets.bind_replies.Given as goal

abbrev pub invariant-loop-place : goal.invariant-loop-place
invariant-loop-place g l = HasAdded l.place l.initial.all.items l.all.items
