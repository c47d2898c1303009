-- The senders whose datagrams are taken.
use Rattle.std.specs.Prelude.{◌≡◌, ℕ, Bool, true, false, List, Option, Some, None, slice_get}
use Rattle.std.specs.Net.Addr.{IsIpv4Mapped, ipv4_octets, ipv6_segments, low_octets}
use Rattle.std.specs.Net.Socket.{socket_ip, socket_port}
use Rattle.std.specs.declared.net.ip_addr.IpAddr.{IpAddr}
use Rattle.std.specs.declared.net.ip_addr.IpAddr.TheVariants.{V4, V6}
use Rattle.std.specs.declared.net.ipv4_addr.Ipv4Addr.{Ipv4Addr}
use Rattle.std.specs.declared.net.ipv6_addr.Ipv6Addr.{Ipv6Addr}
use Rattle.std.specs.declared.net.socket_addr.SocketAddr.{SocketAddr}
use Rattle.run_settings.specs.declared.sender.AllowedSender.{AllowedSender}
use Rattle.run_settings.specs.declared.sender.Senders.{Senders}
use Rattle.run_settings.specs.declared.sender.Senders.TheVariants.{Any, These}

-- the port is this one, if one is asked for
abbrev pub HasPort : Option ℕ → ℕ → Type 0
HasPort None port = Unit {0}
HasPort (Some asked) port = asked ≡ port

-- the address of version 6 of IP is this one of version 4, mapped: ::ffff:a.b.c.d of a.b.c.d
abbrev pub IsMappedFrom : Ipv4Addr → Ipv6Addr → Type 0
IsMappedFrom ip mapped =
    IsIpv4Mapped (ipv6_segments mapped) × (ipv4_octets ip ≡ low_octets mapped)

-- the addresses are one machine's: the same, or the same mapped
abbrev pub IsSameMachine : IpAddr → IpAddr → Type 0
IsSameMachine (V4 one) (V6 other) = IsMappedFrom one other
IsSameMachine (V6 one) (V4 other) = IsMappedFrom other one
IsSameMachine one other = one ≡ other

-- what comes from this address is the sender's
abbrev pub IsOfSender : AllowedSender → SocketAddr → Type 0
IsOfSender sender from =
    HasPort sender.port (socket_port from) × IsSameMachine sender.address (socket_ip from)

-- it is that of one of the senders
pub record HasSender (senders : List AllowedSender) (from : SocketAddr) : Type 0 where
  pub place : ℕ
  pub sender : AllowedSender
  pub is : Some sender ≡ slice_get senders place
  pub sent : IsOfSender sender from

-- the senders, where any are named
abbrev pub senders_of : Senders → Option (List AllowedSender)
senders_of Any = None
senders_of (These senders) = Some senders.items

-- a datagram from this address is taken: from any where no senders are named
abbrev pub IsTakenFrom : Option (List AllowedSender) → SocketAddr → Type 0
IsTakenFrom None from = Unit {0}
IsTakenFrom (Some senders) from = HasSender senders from

-- senders are named
abbrev pub are_named : Senders → Bool
are_named Any = false
are_named (These senders) = true
