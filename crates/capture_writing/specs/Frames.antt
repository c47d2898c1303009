-- Datagrams in frames of a savefile, as they are written.
use Rattle.std.specs.Prelude.{ℕ, ◌+◌, ◌*◌, ◌/◌, ◌%◌, ◌==◌, ◌^◌, ◌<◌, ◌≤◌, ◌≡◌, true, List, [], ◌∷◌, ◌++◌, length, take, flat_map, slice_index, Some, if◌then◌else◌}
use Rattle.packet_capture.specs.declared.datagram.Address.TheVariants.{V4}
use Rattle.packet_capture.specs.declared.fields.ByteOrder.TheVariants.{Big, Little}
use Rattle.packet_capture.specs.Datagrams.{DatagramContent}
use Rattle.packet_capture.specs.Frames.{FrameContent}
use Rattle.packet_capture.specs.Written.{WrittenFrame, u16_bytes, header_bytes, record_bytes}
use Rattle.packet_capture.specs.WrittenFrames.{WrittenDatagram, WrittenIpv4, udp_bytes, ipv4_bytes, ethernet_bytes}
use Rattle.capture_writing.specs.declared.destination.Destination.{Destination}
use Rattle.capture_writing.specs.Checksums.{words_sum, checksum_of, datagram_checksum_of}

-- the sender: an address that RFC 5737 keeps for examples, and one of Ethernet of its own making
abbrev pub sender : List ℕ
sender = 192 ∷ 0 ∷ 2 ∷ 1 ∷ []

abbrev pub sender_link : List ℕ
sender_link = 2 ∷ 0 ∷ 192 ∷ 0 ∷ 2 ∷ 1 ∷ []

-- The address of Ethernet of an address of IPv4. That of a group (224.0.0.0/4) has its lower 23
-- bits: RFC 1112, section 6.4. That of a machine is of this project's own making.
abbrev pub link_address : List ℕ → List ℕ
link_address address =
    if slice_index address 0 / 16 == 14
    then 1 ∷ 0 ∷ 94 ∷ slice_index address 1 % 128
    ∷ slice_index address 2 ∷ slice_index address 3 ∷ []
    else 2 ∷ 0 ∷ slice_index address 0 ∷ slice_index address 1
    ∷ slice_index address 2 ∷ slice_index address 3 ∷ []

-- a datagram from the port that it goes to, with this checksum
abbrev pub datagram_with : ℕ → Destination → List ℕ → WrittenDatagram
datagram_with checksum to bytes =
    record { source_port = to.port; port = to.port; checksum = checksum; bytes = bytes }

-- what its checksum is of: the addresses, the protocol and the length, and the datagram without it
abbrev pub datagram_sum : Destination → List ℕ → ℕ
datagram_sum to bytes = words_sum
    (sender ++ (to.address ++ (0 ∷ 17 ∷ u16_bytes Big (8 + length bytes)
    ++ udp_bytes (datagram_with 0 to bytes))))

abbrev pub datagram_to : Destination → List ℕ → WrittenDatagram
datagram_to to bytes = datagram_with (datagram_checksum_of (datagram_sum to bytes)) to bytes

-- a packet that is not to be cut into fragments and stays in its network, with this checksum
abbrev pub packet_with : ℕ → Destination → WrittenIpv4
packet_with checksum to = record {
  service = 0;
  number = 0;
  keep_whole = true;
  time_to_live = 1;
  checksum = checksum;
  source = sender;
  destination = to.address;
  words = 0;
  options = [];
}

-- what its checksum is of: its header without it
abbrev pub header_sum : Destination → List ℕ → ℕ
header_sum to bytes =
    words_sum (take 20 (ipv4_bytes (packet_with 0 to) (datagram_with 0 to bytes)))

abbrev pub packet_to : Destination → List ℕ → WrittenIpv4
packet_to to bytes = packet_with (checksum_of (header_sum to bytes)) to

-- the frame of a datagram, in Ethernet
abbrev pub frame_bytes : Destination → List ℕ → List ℕ
frame_bytes to bytes = ethernet_bytes (link_address to.address ++ sender_link) [] 2048
    (ipv4_bytes (packet_to to bytes) (datagram_to to bytes)) []

-- a datagram, the address and port that it goes to, and its time in nanoseconds from 1970 on
pub record TimedDatagram : Type 0 where
  pub to : Destination
  pub time : ℕ
  pub bytes : List ℕ

-- a savefile has seconds of 32 bits, and IPv4 datagrams of at most 65,507 bytes
pub record FitsFrame (d : TimedDatagram) : Type 0 where
  pub address : length d.to.address ≡ 4
  pub port : d.to.port < 65536
  pub time : d.time < 2 ^ 32 * 1000000000
  pub short : length d.bytes ≤ 65507

-- its frame, which is written whole
abbrev pub frame_of_datagram : TimedDatagram → WrittenFrame
frame_of_datagram d = record {
  seconds = d.time / 1000000000;
  parts = d.time % 1000000000;
  wire_len = 42 + length d.bytes;
  bytes = frame_bytes d.to d.bytes;
}

-- the header of a savefile of Ethernet frames with times in nanoseconds, low bytes first
abbrev pub file_header : List ℕ
file_header = header_bytes Little true 262144 1

-- the packet record of a datagram
abbrev pub datagram_record_bytes : TimedDatagram → List ℕ
datagram_record_bytes d = record_bytes Little (frame_of_datagram d)

-- a savefile of datagrams
abbrev pub savefile_of : List TimedDatagram → List ℕ
savefile_of datagrams = file_header ++ flat_map datagram_record_bytes datagrams

-- its frames and their datagrams, as they are read
abbrev pub frame_read : TimedDatagram → FrameContent
frame_read d = record {
  link = 1;
  time = Some d.time;
  wire_len = 42 + length d.bytes;
  bytes = frame_bytes d.to d.bytes;
}

abbrev pub datagram_read : TimedDatagram → DatagramContent
datagram_read d = record { address = V4 d.to.address; port = d.to.port; bytes = d.bytes }
