-- The link-layer header of a frame, by its link type: the registry of link-layer header types of
-- tcpdump.org, IEEE 802.3 and 802.1Q.
use Rattle.std.specs.Prelude.{ℕ, zero, suc, ◌+◌, ◌/◌, ◌==◌, ◌||◌, Bool, List, length, drop, Option, Some, None, slice_index, if◌then◌else◌}
use Rattle.packet_capture.specs.declared.fields.ByteOrder.TheVariants.{Big, Little}
use Rattle.packet_capture.specs.declared.link.LinkType.{LinkType}
use Rattle.packet_capture.specs.declared.link.LinkType.TheVariants.{Null, Ethernet, Raw, Loop, LinuxCooked, Ipv4, Ipv6, LinuxCooked2}
use Rattle.packet_capture.specs.declared.link.TypedHeader.{TypedHeader}
use Rattle.packet_capture.specs.declared.link.IpVersion.{IpVersion}
use Rattle.packet_capture.specs.declared.link.IpVersion.TheVariants.{V4, V6}
use Rattle.packet_capture.specs.Fields.{u16_in, u32_in}

-- the number of each link type that is read
abbrev pub number_of : LinkType → ℕ
number_of Null = 0
number_of Ethernet = 1
number_of Raw = 101
number_of Loop = 108
number_of LinuxCooked = 113
number_of Ipv4 = 228
number_of Ipv6 = 229
number_of LinuxCooked2 = 276

-- 8100, 88a8 and 9100 are the EtherTypes of VLAN tags
abbrev pub is_tag : ℕ → Bool
is_tag type = (type == 33024) || (type == 34984) || (type == 37120)

-- a VLAN tag makes a header four bytes longer, of which the last two are the EtherType of what
-- follows it
abbrev pub with_tag : TypedHeader → TypedHeader
with_tag h = record { type_at = h.len + 2; len = h.len + 4 }

-- a header with its VLAN tags, the first `most` of them
abbrev pub with_tags : ℕ → TypedHeader → List ℕ → TypedHeader
with_tags zero h frame = h
with_tags (suc most) h frame =
    if is_tag (u16_in Big frame h.type_at) then with_tags most (with_tag h) frame else h

-- with all of them: a frame has fewer than bytes
abbrev pub tagged : TypedHeader → List ℕ → TypedHeader
tagged h frame = with_tags (length frame) h frame

-- the headers with an EtherType, without tags
abbrev pub ethernet : TypedHeader
ethernet = record { type_at = 12; len = 14 }

abbrev pub cooked : TypedHeader
cooked = record { type_at = 14; len = 16 }

abbrev pub cooked_2 : TypedHeader
cooked_2 = record { type_at = 0; len = 20 }

-- the number of bytes before the IP packet
abbrev pub link_len : LinkType → List ℕ → ℕ
link_len Null frame = 4
link_len Ethernet frame = (tagged ethernet frame).len
link_len Raw frame = 0
link_len Loop frame = 4
link_len LinuxCooked frame = (tagged cooked frame).len
link_len Ipv4 frame = 0
link_len Ipv6 frame = 0
link_len LinuxCooked2 frame = (tagged cooked_2 frame).len

-- the EtherType 0800 is IPv4, and 86dd is IPv6
abbrev pub by_ether_type : ℕ → Option IpVersion
by_ether_type type = if type == 2048 then Some V4 else (if type == 34525 then Some V6 else None)

-- the address family 2 is IPv4, and 24, 28 and 30 are IPv6, each on some system
abbrev pub by_family : ℕ → Option IpVersion
by_family family =
    if family == 2 then Some V4
    else (if (family == 24) || (family == 28) || (family == 30) then Some V6 else None)

-- the version that an IP packet's first four bits say
abbrev pub by_first_byte : ℕ → Option IpVersion
by_first_byte byte =
    if byte / 16 == 4 then Some V4 else (if byte / 16 == 6 then Some V6 else None)

-- the first of two that is there
abbrev pub either_of : Option IpVersion → Option IpVersion → Option IpVersion
either_of (Some version) other = Some version
either_of None other = other

-- the version by the EtherType of a frame's content
abbrev pub by_header : TypedHeader → List ℕ → Option IpVersion
by_header bare frame = by_ether_type (u16_in Big frame (tagged bare frame).type_at)

-- the version of the IP packet that the frame carries, if any. A family of type Null is in the byte
-- order of the machine that made the capture, which the frame doesn't say: it is read both ways
abbrev pub version_in : LinkType → List ℕ → Option IpVersion
version_in Null frame =
    either_of (by_family (u32_in Little frame 0)) (by_family (u32_in Big frame 0))
version_in Ethernet frame = by_header ethernet frame
version_in Raw frame = by_first_byte (slice_index frame 0)
version_in Loop frame = by_family (u32_in Big frame 0)
version_in LinuxCooked frame = by_header cooked frame
version_in Ipv4 frame = Some V4
version_in Ipv6 frame = Some V6
version_in LinuxCooked2 frame = by_header cooked_2 frame

-- the IP packet
abbrev pub packet_in : LinkType → List ℕ → List ℕ
packet_in link frame = drop (link_len link frame) frame
