-- The fates of frames: what a frame shows of the lines of a capture.
use Rattle.std.specs.Prelude.{◌≡◌, ◌⊎◌, ℕ, Bool, true, ◌&&◌, nat_le, ◌==◌, List, [], ◌∷◌, length, count_by, Option, None, Some, if◌then◌else◌}
use Rattle.std.specs.List.{list_all}
use Rattle.packet_capture.specs.Datagrams.{DatagramContent, CarriesDatagram}
use Rattle.packet_capture.specs.FrameFaults.{HasFrameFault}
use Rattle.packet_capture.specs.Frames.{FrameContent}
use Rattle.line_captures.specs.Counts.{FrameFate, elsewhere, no_datagram}
use Rattle.message_forms.specs.Payloads.{is_itch, is_own}
use Rattle.mold_packet.specs.declared.fault.PacketFault.{PacketFault}
use Rattle.mold_packet.specs.Content.{Content, Spells, last_number}
use Rattle.mold_packet.specs.Faults.{HasFault}
use Rattle.line_discovery.specs.declared.frame_class.FrameClass.{FrameClass}
use Rattle.line_discovery.specs.declared.frame_class.FrameClass.TheVariants.{Packet, Other, NoDatagram}
use Rattle.line_discovery.specs.declared.line_key.LineKey.{LineKey}
use Rattle.line_discovery.specs.declared.endpoint_packet.EndpointPacket.{EndpointPacket}
use Rattle.line_discovery.specs.declared.span.Span.{Span}

-- printable ASCII, as the names that a command line can have
abbrev pub is_printable_name : List ℕ → Bool
is_printable_name name = list_all (λ b. nat_le 32 b && nat_le b 126) name

-- where a datagram goes, and its session, if it is a packet
abbrev pub line_key : DatagramContent → Option (List ℕ) → LineKey
line_key d session = record { address = d.address; port = d.port; session = session }

-- the numbers of the first and the last message of a packet that has any
abbrev pub numbers_of : Content → Option Span
numbers_of p =
    if length p.messages == 0 then None
    else Some (record { low = p.number; high = last_number p })

abbrev pub sighting_times : Option ℕ → Option Span
sighting_times None = None
sighting_times (Some time) = Some (record { low = time; high = time })

-- a datagram that is a packet, and came at this time
abbrev pub packet_sighting : DatagramContent → Option ℕ → Content → EndpointPacket
packet_sighting d time p = record {
  key = line_key d (Some p.session);
  messages = length p.messages;
  own = count_by is_own p.messages;
  itch = count_by is_itch p.messages;
  bytes = length d.bytes;
  numbers = numbers_of p;
  times = sighting_times time;
}

-- a datagram that is none
abbrev pub other_sighting : DatagramContent → Option ℕ → EndpointPacket
other_sighting d time = record {
  key = line_key d None;
  messages = 0;
  own = 0;
  itch = 0;
  bytes = length d.bytes;
  numbers = None;
  times = sighting_times time;
}

-- the bytes spell a packet of a session whose name is printable
pub record IsPacket (bytes : List ℕ) (packet : Content) : Type 0 where
  pub rest : List ℕ
  pub spells : Spells bytes packet rest
  pub named : is_printable_name packet.session ≡ true

-- the bytes spell no packet, or one of a session whose name isn't printable
abbrev pub IsNoPacket : List ℕ → Type 0
IsNoPacket bytes =
    ((fault : PacketFault) × HasFault bytes fault)
    ⊎ ((packet : Content) × (rest : List ℕ) × Spells bytes packet rest
    × (is_printable_name packet.session ≡ true → ⊥))

-- what a datagram at this time shows: a packet, or another datagram
abbrev pub IsShown : DatagramContent → Option ℕ → FrameClass → Type 0
IsShown d time (Packet s) =
    (packet : Content) × IsPacket d.bytes packet × (s ≡ packet_sighting d time packet)
IsShown d time (Other s) = IsNoPacket d.bytes × (s ≡ other_sighting d time)
IsShown d time (NoDatagram fault) = ⊥

-- the fate of a frame: its datagram is shown, or it carries none
abbrev pub HasFate : FrameContent → FrameClass → Type 0
HasFate frame (NoDatagram fault) = HasFrameFault frame.link frame.bytes fault
HasFate frame fate =
    (d : DatagramContent) × CarriesDatagram frame.link frame.bytes d × IsShown d frame.time fate

-- the packets, and the other datagrams
abbrev pub packets_in : FrameClass → List EndpointPacket
packets_in (Packet s) = s ∷ []
packets_in (Other s) = []
packets_in (NoDatagram fault) = []

abbrev pub others_in : FrameClass → List EndpointPacket
others_in (Packet s) = []
others_in (Other s) = s ∷ []
others_in (NoDatagram fault) = []

-- a fate as a replay of the capture has it that reads no line
abbrev pub frame_fate : FrameClass → FrameFate
frame_fate (Packet s) = elsewhere
frame_fate (Other s) = elsewhere
frame_fate (NoDatagram fault) = no_datagram fault
