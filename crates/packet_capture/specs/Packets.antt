-- IP packets with a UDP datagram: RFC 791, section 3.1, RFC 8200, sections 3 and 4, RFC 768.
use Rattle.std.specs.Prelude.{◌≡◌, ℕ, ◌+◌, ◌-◌, ◌*◌, ◌/◌, ◌%◌, ◌≤◌, ◌==◌, ◌||◌, Bool, List, length, Option, Some, None, slice_index, if◌then◌else◌}
use Rattle.packet_capture.specs.declared.fields.ByteOrder.TheVariants.{Big}
use Rattle.packet_capture.specs.declared.fault.FrameFault.{FrameFault}
use Rattle.packet_capture.specs.declared.fault.FrameFault.TheVariants.{NotUdp, Fragment, ExtensionHeader}
use Rattle.packet_capture.specs.declared.link.IpVersion.{IpVersion}
use Rattle.packet_capture.specs.declared.link.IpVersion.TheVariants.{V4, V6}
use Rattle.packet_capture.specs.declared.datagram.Address.{Address}
use Rattle.packet_capture.specs.declared.datagram.Address.TheVariants as addresses
use Rattle.packet_capture.specs.Fields.{u16_in, bytes_at}

abbrev pub version_number : IpVersion → ℕ
version_number V4 = 4
version_number V6 = 6

-- the least number of bytes of a header
abbrev pub least_len : IpVersion → ℕ
least_len V4 = 20
least_len V6 = 40

-- the number of bytes of the header: IPv4 counts words of four, with the options
abbrev pub header_len : IpVersion → List ℕ → ℕ
header_len V4 packet = slice_index packet 0 % 16 * 4
header_len V6 packet = 40

-- the number of bytes of the packet: IPv4 counts the header, and IPv6 what follows it
abbrev pub packet_len : IpVersion → List ℕ → ℕ
packet_len V4 packet = u16_in Big packet 2
packet_len V6 packet = 40 + u16_in Big packet 4

-- the header is there, of this version, and its lengths agree
pub record IsIp (version : IpVersion) (packet : List ℕ) : Type 0 where
  pub there : least_len version ≤ length packet
  pub number : slice_index packet 0 / 16 ≡ version_number version
  pub least : least_len version ≤ header_len version packet
  pub within : header_len version packet ≤ packet_len version packet

-- the headers that may be between that of IPv6 and the datagram, but for that of a fragment: for
-- each hop (0), of routes (43), encrypted (50), authenticated (51), for the destination (60), and
-- 135, 139 and 140
abbrev pub is_extension : ℕ → Bool
is_extension next =
    (next == 0) || (next == 43) || (next == 50) || (next == 51) || (next == 60) || (next == 135)
    || (next == 139) || (next == 140)

-- why the packet has no whole UDP datagram, if so: it is of another protocol (UDP is 17), or a
-- fragment, the first one too, or has an extension header of IPv6
abbrev pub obstacle_in : IpVersion → List ℕ → Option FrameFault
obstacle_in V4 packet =
    if slice_index packet 9 == 17
    then (if u16_in Big packet 6 % 16384 == 0 then None else Some Fragment)
    else Some NotUdp
obstacle_in V6 packet =
    if slice_index packet 6 == 17 then None
    else (if slice_index packet 6 == 44 then Some Fragment
    else (if is_extension (slice_index packet 6) then Some ExtensionHeader else Some NotUdp))

-- the destination of the packet
abbrev pub destination_in : IpVersion → List ℕ → Address
destination_in V4 packet = addresses.V4 (bytes_at packet 16 4)
destination_in V6 packet = addresses.V6 (bytes_at packet 24 16)

-- what follows the header
abbrev pub segment_in : IpVersion → List ℕ → List ℕ
segment_in version packet =
    let header = header_len version packet in
    bytes_at packet header (packet_len version packet - header)

-- a UDP header, whose length counts itself and what is there
pub record IsUdp (segment : List ℕ) : Type 0 where
  pub there : 8 ≤ length segment
  pub least : 8 ≤ u16_in Big segment 4
  pub within : u16_in Big segment 4 ≤ length segment
