-- What is said where no socket was opened.
use Rattle.std.specs.Prelude.{ℕ, List, codes}
use Rattle.udp_listening.specs.declared.sockets.BindFault.{BindFault}
use Rattle.udp_listening.specs.declared.sockets.BindFault.TheVariants as binds

-- the text where no socket was opened, without the address
abbrev pub bind_fault_text : BindFault → List ℕ
bind_fault_text binds.NoMemory = codes "nbbo: no memory\n"
bind_fault_text (binds.Refused address refusal) = codes "nbbo: bind failed\n"
