-- The list of senders on the command line: a sender is an IP address, or one with a port, as std
-- reads them, and commas stand between senders.
use Rattle.std.specs.Prelude.{◌≡◌, ◌⊎◌, ℕ, List, Option, Some, None, Result, Ok, Err}
use Rattle.std.specs.Net.Grammar.{IsIpText, IsSocketText}
use Rattle.std.specs.Net.Socket.{socket_ip, socket_port}
use Rattle.std.specs.declared.net.ip_addr.IpAddr.{IpAddr}
use Rattle.std.specs.declared.net.socket_addr.SocketAddr.{SocketAddr}
use Rattle.run_settings.specs.declared.sender.AllowedSender.{AllowedSender}
use Rattle.run_settings.specs.declared.sender.Senders.{Senders}
use Rattle.run_settings.specs.declared.sender.Senders.TheVariants.{Any, These}
use Rattle.command_words.specs.Addresses.{AreSpelled}
use Rattle.command_words.specs.Readings.{Gives}
use Rattle.command_words.specs.Sessions.{names_in}
use Rattle.command_words.specs.declared.refusal.Refusal.{Refusal}
use Rattle.command_words.specs.declared.refusal.Refusal.TheVariants.{BadSender, NoMemory, SendersWithFrom}

-- the text spells this address and port
pub record SpellsPort (text : List ℕ) (address : IpAddr) (port : ℕ) : Type 0 where
  pub at : SocketAddr
  pub spelled : IsSocketText text at
  pub address_is : socket_ip at ≡ address
  pub port_is : socket_port at ≡ port

-- the text spells this address, with the port if there is one
abbrev pub SpellsAddress : List ℕ → IpAddr → Option ℕ → Type 0
SpellsAddress text address None = IsIpText text address
SpellsAddress text address (Some port) = SpellsPort text address port

abbrev pub IsSenderText : List ℕ → AllowedSender → Type 0
IsSenderText text sender = SpellsAddress text sender.address sender.port

-- the list names these senders; without a list it is any
abbrev pub NameSenders : Option (List ℕ) → Senders → Type 0
NameSenders None Any = Unit {0}
NameSenders None (These senders) = ⊥
NameSenders (Some list) Any = ⊥
NameSenders (Some list) (These senders) =
    AreSpelled IsSenderText (names_in list) senders.items

-- the list names no senders
abbrev pub NamesNoSenders : Option (List ℕ) → Type 0
NamesNoSenders None = ⊥
NamesNoSenders (Some list) =
    (senders : List AllowedSender) → AreSpelled IsSenderText (names_in list) senders → ⊥

abbrev pub ReadsSenders : Option (List ℕ) → Result Senders Refusal → Type 0
ReadsSenders list (Ok senders) = NameSenders list senders
ReadsSenders list (Err refusal) =
    (refusal ≡ NoMemory) ⊎ ((refusal ≡ BadSender) × NamesNoSenders list)

-- the senders by the texts of --senders and of its other name, --from, of which one may be given
abbrev pub ReadsNamedSenders : (senders from : Option (List ℕ)) → Result Senders Refusal → Type 0
ReadsNamedSenders (Some senders) (Some from) = Gives (Err SendersWithFrom)
ReadsNamedSenders (Some senders) None = ReadsSenders (Some senders)
ReadsNamedSenders None from = ReadsSenders from
