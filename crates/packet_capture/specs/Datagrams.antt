-- The UDP datagram that a frame carries.
use Rattle.std.specs.Prelude.{◌≡◌, ℕ, ◌-◌, ◌≤◌, List, length, Some, None}
use Rattle.packet_capture.specs.declared.fields.ByteOrder.TheVariants.{Big}
use Rattle.packet_capture.specs.declared.link.IpVersion.{IpVersion}
use Rattle.packet_capture.specs.declared.link.LinkType.{LinkType}
use Rattle.packet_capture.specs.declared.datagram.Address.{Address}
use Rattle.packet_capture.specs.declared.datagram.UdpDatagram.{UdpDatagram}
use Rattle.packet_capture.specs.Fields.{u16_in, bytes_at}
use Rattle.packet_capture.specs.Links.{number_of, link_len, version_in, packet_in}
use Rattle.packet_capture.specs.Packets.{IsIp, IsUdp, packet_len, obstacle_in, destination_in, segment_in}

-- a datagram: its destination, and its bytes
pub record DatagramContent : Type 0 where
  pub address : Address
  pub port : ℕ
  pub bytes : List ℕ

abbrev pub datagram_content : UdpDatagram → DatagramContent
datagram_content d = record { address = d.address; port = d.port; bytes = d.bytes.now }

-- the datagram of a packet that has one
abbrev pub datagram_in : IpVersion → List ℕ → DatagramContent
datagram_in version packet =
    let segment = segment_in version packet in
    record {
      address = destination_in version packet;
      port = u16_in Big segment 2;
      bytes = bytes_at segment 8 (u16_in Big segment 4 - 8);
    }

-- the packet has a whole UDP datagram
pub record HasUdp (version : IpVersion) (packet : List ℕ) : Type 0 where
  pub ip : IsIp version packet
  pub clear : obstacle_in version packet ≡ None
  pub whole : packet_len version packet ≤ length packet
  pub udp : IsUdp (segment_in version packet)

-- a frame of this link type has an IP packet of this version
pub record HasPacket (link : LinkType) (frame : List ℕ) (version : IpVersion) : Type 0 where
  pub there : link_len link frame ≤ length frame
  pub version_is : version_in link frame ≡ Some version

-- a frame, of a link type by its number, carries this datagram
pub record CarriesDatagram (number : ℕ) (frame : List ℕ) (datagram : DatagramContent) : Type 0 where
  pub link : LinkType
  pub number_is : number ≡ number_of link
  pub version : IpVersion
  pub packet : HasPacket link frame version
  pub udp : HasUdp version (packet_in link frame)
  pub is : datagram ≡ datagram_in version (packet_in link frame)
