-- Sections of pcapng files as they are written, which read back: stated apart from their reading.
use Rattle.std.specs.Prelude.{◌≡◌, ℕ, ◌+◌, ◌/◌, ◌%◌, ◌^◌, ◌<◌, ◌≤◌, List, ◌++◌, length, flat_map}
use Rattle.packet_capture.specs.declared.fields.ByteOrder.{ByteOrder}
use Rattle.packet_capture.specs.declared.interface.Interface.{Interface}
use Rattle.packet_capture.specs.Frames.{FrameContent}
use Rattle.packet_capture.specs.Interfaces.{time_of}
use Rattle.packet_capture.specs.Written.{u16_bytes, u32_bytes}

-- a block: its type, its length, its body and its length again
abbrev pub block_bytes : ByteOrder → ℕ → List ℕ → List ℕ
block_bytes order type body =
    u32_bytes order type
    ++ (u32_bytes order (12 + length body)
    ++ (body ++ u32_bytes order (12 + length body)))

-- the header of a section of version 1.0, whose length isn't given
abbrev pub section_header : ByteOrder → List ℕ
section_header order = block_bytes order 168627466
    (u32_bytes order 439041101
    ++ (u16_bytes order 1 ++ (u16_bytes order 0
    ++ (u32_bytes order 4294967295 ++ u32_bytes order 4294967295))))

-- an interface of this link type with no option: its times are in microseconds
abbrev pub interface_bytes : ByteOrder → ℕ → ℕ → List ℕ
interface_bytes order link snap_len = block_bytes order 1
    (u16_bytes order link ++ (u16_bytes order 0 ++ u32_bytes order snap_len))

-- a packet as it is written: its microseconds, its length on the wire, what was captured, and what
-- fills that to a multiple of four bytes
pub record WrittenPacket : Type 0 where
  pub ticks : ℕ
  pub wire_len : ℕ
  pub bytes : List ℕ
  pub filling : List ℕ

pub record IsWrittenPacket (p : WrittenPacket) : Type 0 where
  pub ticks : p.ticks < 2 ^ 64
  pub wire_len : p.wire_len < 2 ^ 32
  pub short : length p.bytes + length p.filling ≤ 1048544
  pub filled : (length p.bytes + length p.filling) % 4 ≡ 0

-- the enhanced packet block of a packet of the first interface
abbrev pub packet_bytes : ByteOrder → WrittenPacket → List ℕ
packet_bytes order p = block_bytes order 6
    (u32_bytes order 0
    ++ (u32_bytes order (p.ticks / 4294967296) ++ (u32_bytes order (p.ticks % 4294967296)
    ++ (u32_bytes order (length p.bytes) ++ (u32_bytes order p.wire_len
    ++ (p.bytes ++ p.filling))))))

-- a section of one interface with these packets
abbrev pub section_bytes : ByteOrder → ℕ → ℕ → List WrittenPacket → List ℕ
section_bytes order link snap_len packets =
    section_header order ++ (interface_bytes order link snap_len
    ++ flat_map (packet_bytes order) packets)

abbrev pub written_interface : ℕ → ℕ → Interface
written_interface link snap_len =
    record { link = link; snap_len = snap_len; resolution = 6; offset = 0 }

-- the frame that was written
abbrev pub packet_frame : ℕ → ℕ → WrittenPacket → FrameContent
packet_frame link snap_len p = record {
  link = link;
  time = time_of (written_interface link snap_len) p.ticks;
  wire_len = p.wire_len;
  bytes = p.bytes;
}
