-- Why a frame carries no datagram, and the codes of these faults, which are this project's own.
use Rattle.std.specs.Prelude.{◌≡◌, ℕ, ◌<◌, ◌≤◌, ◌⊎◌, List, length, Some, None}
use Rattle.packet_capture.specs.declared.link.IpVersion.{IpVersion}
use Rattle.packet_capture.specs.declared.link.LinkType.{LinkType}
use Rattle.packet_capture.specs.declared.fault.FrameFault.{FrameFault}
use Rattle.packet_capture.specs.declared.fault.FrameFault.TheVariants.{UnknownLink, NotIp, ShortFrame, BadIpHeader, NotUdp, Fragment, ExtensionHeader, BadUdpLength}
use Rattle.packet_capture.specs.Links.{number_of, link_len, version_in, packet_in}
use Rattle.packet_capture.specs.Packets.{IsIp, IsUdp, least_len, packet_len, obstacle_in, segment_in}
use Rattle.packet_capture.specs.Datagrams.{HasPacket}

-- before the packet: the frame is cut there, or carries no IP
abbrev pub HasLinkFault : LinkType → List ℕ → FrameFault → Type 0
HasLinkFault link frame fault =
    ((length frame < link_len link frame) × (fault ≡ ShortFrame))
    ⊎ ((link_len link frame ≤ length frame) × (version_in link frame ≡ None) × (fault ≡ NotIp))

-- nothing is wrong with the header, and the packet could have a datagram
abbrev pub IsClear : IpVersion → List ℕ → Type 0
IsClear version packet = IsIp version packet × (obstacle_in version packet ≡ None)

-- in the packet, in this order: the header is cut; it is bad; it says why no UDP datagram is here;
-- the frame ends before the packet; the datagram's length is bad
abbrev pub HasPacketFault : IpVersion → List ℕ → FrameFault → Type 0
HasPacketFault version packet fault =
    ((length packet < least_len version) × (fault ≡ ShortFrame))
    ⊎ ((least_len version ≤ length packet) × (IsIp version packet → ⊥) × (fault ≡ BadIpHeader))
    ⊎ (IsIp version packet × (obstacle_in version packet ≡ Some fault))
    ⊎ (IsClear version packet × (length packet < packet_len version packet)
    × (fault ≡ ShortFrame))
    ⊎ (IsClear version packet × (packet_len version packet ≤ length packet)
    × (IsUdp (segment_in version packet) → ⊥) × (fault ≡ BadUdpLength))

-- the frame's fault: of its link type, before its packet, or in it
abbrev pub HasFrameFault : ℕ → List ℕ → FrameFault → Type 0
HasFrameFault number frame fault =
    ((fault ≡ UnknownLink) × ((link : LinkType) → number ≡ number_of link → ⊥))
    ⊎ ((link : LinkType) × (number ≡ number_of link)
    × (HasLinkFault link frame fault
    ⊎ ((version : IpVersion) × HasPacket link frame version
    × HasPacketFault version (packet_in link frame) fault)))

-- the code by which logs name a fault
abbrev pub frame_code : FrameFault → ℕ
frame_code UnknownLink = 52
frame_code NotIp = 53
frame_code ShortFrame = 54
frame_code BadIpHeader = 55
frame_code NotUdp = 56
frame_code Fragment = 57
frame_code ExtensionHeader = 58
frame_code BadUdpLength = 59
