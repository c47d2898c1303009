-- UDP datagrams in Ethernet frames as they are written, which read back: stated apart from their
-- reading.
use Rattle.std.specs.Prelude.{◌≡◌, ℕ, ◌+◌, ◌*◌, ◌<◌, ◌≤◌, Bool, List, [], ◌∷◌, ◌++◌, length, flat_map, if◌then◌else◌}
use Rattle.packet_capture.specs.declared.fields.ByteOrder.TheVariants.{Big}
use Rattle.packet_capture.specs.declared.datagram.Address.{Address}
use Rattle.packet_capture.specs.Datagrams.{DatagramContent}
use Rattle.packet_capture.specs.Written.{u16_bytes}

-- a datagram: its ports, its checksum and its content
pub record WrittenDatagram : Type 0 where
  pub source_port : ℕ
  pub port : ℕ
  pub checksum : ℕ
  pub bytes : List ℕ

-- its header of 8 bytes, whose length counts itself, and its content
abbrev pub udp_bytes : WrittenDatagram → List ℕ
udp_bytes d =
    u16_bytes Big d.source_port
    ++ (u16_bytes Big d.port
    ++ (u16_bytes Big (8 + length d.bytes)
    ++ (u16_bytes Big d.checksum ++ d.bytes)))

-- the fields of an IPv4 header that are not lengths
pub record WrittenIpv4 : Type 0 where
  pub service : ℕ
  pub number : ℕ
  pub keep_whole : Bool
  pub time_to_live : ℕ
  pub checksum : ℕ
  pub source : List ℕ
  pub destination : List ℕ
  pub words : ℕ
  pub options : List ℕ

-- addresses of four bytes, and up to ten words of four bytes of options
pub record IsWrittenIpv4 (p : WrittenIpv4) (d : WrittenDatagram) : Type 0 where
  pub source : length p.source ≡ 4
  pub destination : length p.destination ≡ 4
  pub few : p.words ≤ 10
  pub options : length p.options ≡ 4 * p.words
  pub port : d.port < 65536
  pub fits : 28 + 4 * p.words + length d.bytes < 65536

-- version 4, the header's length in words, the whole length, no fragment, and 17 for UDP
abbrev pub ipv4_bytes : WrittenIpv4 → WrittenDatagram → List ℕ
ipv4_bytes p d =
    (69 + p.words) ∷ p.service ∷ []
    ++ (u16_bytes Big (28 + 4 * p.words + length d.bytes)
    ++ (u16_bytes Big p.number
    ++ ((if p.keep_whole then 64 else 0) ∷ 0 ∷ p.time_to_live ∷ 17 ∷ []
    ++ (u16_bytes Big p.checksum
    ++ (p.source ++ (p.destination ++ (p.options ++ udp_bytes d)))))))

-- the fields of an IPv6 header that are not lengths: the class and the label in four bytes with the
-- version
pub record WrittenIpv6 : Type 0 where
  pub class_high : ℕ
  pub class_low : ℕ
  pub label : ℕ
  pub hops : ℕ
  pub source : List ℕ
  pub destination : List ℕ

pub record IsWrittenIpv6 (p : WrittenIpv6) (d : WrittenDatagram) : Type 0 where
  pub class_high : p.class_high < 16
  pub source : length p.source ≡ 16
  pub destination : length p.destination ≡ 16
  pub port : d.port < 65536
  pub fits : 8 + length d.bytes < 65536

-- version 6, the length of what follows the header, and 17 for UDP
abbrev pub ipv6_bytes : WrittenIpv6 → WrittenDatagram → List ℕ
ipv6_bytes p d =
    (96 + p.class_high) ∷ p.class_low ∷ []
    ++ (u16_bytes Big p.label
    ++ (u16_bytes Big (8 + length d.bytes)
    ++ (17 ∷ p.hops ∷ []
    ++ (p.source ++ (p.destination ++ udp_bytes d)))))

-- a VLAN tag: a customer's, a service's, or one that was doubled before the standard said how
pub data TagKind : Type 0 where
  customer : TagKind
  service : TagKind
  doubled : TagKind

abbrev pub tag_type : TagKind → ℕ
tag_type customer = 33024
tag_type service = 34984
tag_type doubled = 37120

pub record Tag : Type 0 where
  pub kind : TagKind
  pub vlan : ℕ

abbrev pub tag_bytes : Tag → List ℕ
tag_bytes tag = u16_bytes Big (tag_type tag.kind) ++ u16_bytes Big tag.vlan

-- an Ethernet frame: two addresses, of twelve bytes in all, VLAN tags, the EtherType, a packet and
-- what fills the frame
abbrev pub ethernet_bytes : List ℕ → List Tag → ℕ → List ℕ → List ℕ → List ℕ
ethernet_bytes addresses tags type packet filling =
    addresses ++ (flat_map tag_bytes tags ++ (u16_bytes Big type ++ (packet ++ filling)))

-- the datagram that was written, which goes to this address
abbrev pub sent_to : Address → WrittenDatagram → DatagramContent
sent_to address d = record { address = address; port = d.port; bytes = d.bytes }
