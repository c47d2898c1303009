use Rattle.std.proofs.Common.{ℕ, List, Option, Some, None}
use Rattle.std.specs.Net.Grammar.{IsIpText, IsSocketText}
use Rattle.std.specs.declared.net.ip_addr.IpAddr.{IpAddr}
use Rattle.std.specs.declared.net.socket_addr.SocketAddr.{SocketAddr}
use Rattle.command_words.specs.SenderLists.{SpellsAddress}

-- a text that spells no address, neither with a port nor without one, spells no sender
none_spelled : (text : List ℕ) → ((address : IpAddr) → IsIpText text address → ⊥)
    → ((at : SocketAddr) → IsSocketText text at → ⊥)
    → (address : IpAddr) (port : Option ℕ) → SpellsAddress text address port → ⊥
none_spelled text no_address no_socket address None spells = no_address address spells
none_spelled text no_address no_socket address (Some port) spells =
    no_socket spells.at spells.spelled
