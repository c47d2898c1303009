-- The contents of blocks: draft-ietf-opsawg-pcapng, sections 4.1 to 4.4 and appendix A.
use Rattle.std.specs.Prelude.{◌≡◌, ℕ, ◌+◌, ◌*◌, ◌/◌, ◌<◌, ◌≤◌, ◌==◌, ◌⊎◌, List, length, min, Option, Some, None, slice_get, if◌then◌else◌}
use Rattle.packet_capture.specs.declared.fields.ByteOrder.{ByteOrder}
use Rattle.packet_capture.specs.declared.fault.CaptureFault.{CaptureFault}
use Rattle.packet_capture.specs.declared.fault.CaptureFault.TheVariants.{UnknownVersion, ShortBlock, UnknownInterface, FramePastBlock, OptionPastBlock}
use Rattle.packet_capture.specs.declared.interface.Interface.{Interface}
use Rattle.packet_capture.specs.declared.content.BlockKind.{BlockKind}
use Rattle.packet_capture.specs.declared.content.BlockKind.TheVariants.{SectionHeader, Description, Enhanced, Old, Simple, Unread}
use Rattle.packet_capture.specs.declared.content.BlockContent.{BlockContent}
use Rattle.packet_capture.specs.declared.content.BlockContent.TheVariants as contents
use Rattle.packet_capture.specs.Fields.{u16_in, u32_in, bytes_at}
use Rattle.packet_capture.specs.Frames.{FrameContent, frame_of}
use Rattle.packet_capture.specs.Interfaces.{Describes, HasCutOption, time_of}

-- the block of a type: the header of a section, the description of an interface, or a packet's, of
-- which there are three; others are passed over
abbrev pub kind_of : ℕ → BlockKind
kind_of type =
    if type == 168627466 then SectionHeader
    else (if type == 1 then Description
    else (if type == 2 then Old
    else (if type == 3 then Simple
    else (if type == 6 then Enhanced else Unread))))

-- the least number of bytes of a block, with its type and its lengths
abbrev pub fixed_len : BlockKind → ℕ
fixed_len SectionHeader = 28
fixed_len Description = 20
fixed_len Enhanced = 32
fixed_len Old = 32
fixed_len Simple = 16
fixed_len Unread = 12

abbrev pub IsPacketKind : BlockKind → Type 0
IsPacketKind SectionHeader = ⊥
IsPacketKind Description = ⊥
IsPacketKind Enhanced = Unit {0}
IsPacketKind Old = Unit {0}
IsPacketKind Simple = Unit {0}
IsPacketKind Unread = ⊥

-- version 1.0, or 1.2, which is the same
abbrev pub IsSectionVersion : ByteOrder → List ℕ → Type 0
IsSectionVersion order block =
    (u16_in order block 12 ≡ 1) × ((u16_in order block 14 ≡ 0) ⊎ (u16_in order block 14 ≡ 2))

-- the place of the packet's interface in its section: a simple packet is of the first
abbrev pub interface_in : BlockKind → ByteOrder → List ℕ → ℕ
interface_in Enhanced order block = u32_in order block 8
interface_in Old order block = u16_in order block 8
interface_in Simple order block = 0
interface_in SectionHeader order block = 0
interface_in Description order block = 0
interface_in Unread order block = 0

-- the frame's length on the wire
abbrev pub wire_len_in : BlockKind → ByteOrder → List ℕ → ℕ
wire_len_in Simple order block = u32_in order block 8
wire_len_in Enhanced order block = u32_in order block 24
wire_len_in Old order block = u32_in order block 24
wire_len_in SectionHeader order block = 0
wire_len_in Description order block = 0
wire_len_in Unread order block = 0

-- how many bytes of a simple packet were captured: all, up to the interface's limit, where 0 is
-- none
abbrev pub up_to_limit : ℕ → ℕ → ℕ
up_to_limit snap_len len = if snap_len == 0 then len else min len snap_len

abbrev pub captured_in : BlockKind → ByteOrder → Interface → List ℕ → ℕ
captured_in Simple order i block = up_to_limit i.snap_len (u32_in order block 8)
captured_in Enhanced order i block = u32_in order block 20
captured_in Old order i block = u32_in order block 20
captured_in SectionHeader order i block = 0
captured_in Description order i block = 0
captured_in Unread order i block = 0

-- the offset of the frame
abbrev pub frame_start : BlockKind → ℕ
frame_start Simple = 12
frame_start Enhanced = 28
frame_start Old = 28
frame_start SectionHeader = 0
frame_start Description = 0
frame_start Unread = 0

-- the time, in two halves, the higher one first in either order; a simple packet has none
abbrev pub time_in : BlockKind → ByteOrder → Interface → List ℕ → Option ℕ
time_in Enhanced order i block =
    time_of i (u32_in order block 12 * 4294967296 + u32_in order block 16)
time_in Old order i block =
    time_of i (u32_in order block 12 * 4294967296 + u32_in order block 16)
time_in Simple order i block = None
time_in SectionHeader order i block = None
time_in Description order i block = None
time_in Unread order i block = None

-- the frame of a packet's block
abbrev pub frame_in : BlockKind → ByteOrder → Interface → List ℕ → FrameContent
frame_in kind order i block = record {
  link = i.link;
  time = time_in kind order i block;
  wire_len = wire_len_in kind order block;
  bytes = bytes_at block (frame_start kind) (captured_in kind order i block);
}

abbrev pub block_kind : ByteOrder → List ℕ → BlockKind
block_kind order block = kind_of (u32_in order block 0)

-- the block is a packet's of one of these interfaces, with this frame
pub record HasFrame (interfaces : List Interface) (order : ByteOrder) (block : List ℕ)
    (frame : FrameContent) : Type 0 where
  pub kind : BlockKind
  pub kind_is : kind ≡ block_kind order block
  pub is_packet : IsPacketKind kind
  pub there : fixed_len kind ≤ length block
  pub interface : Interface
  pub interface_is : slice_get interfaces (interface_in kind order block) ≡ Some interface
  pub whole : fixed_len kind + captured_in kind order interface block ≤ length block
  pub is : frame ≡ frame_in kind order interface block

-- an enhanced packet's block is as long as its fields and its frame, which is filled up to four
-- bytes: it has no option. Only private clauses cite this.
abbrev pub HasNoOption : ByteOrder → List ℕ → Type 0
HasNoOption order block = length block ≡ 32 + (u32_in order block 20 + 3) / 4 * 4

-- the meaning of a block
pub data BlockEvent : Type 0 where
  section_begins : BlockEvent
  interface_added : Interface → BlockEvent
  frame_came : FrameContent → BlockEvent
  passed_over : BlockEvent

abbrev pub block_event_of : BlockContent → BlockEvent
block_event_of contents.Section = section_begins
block_event_of (contents.Interface i) = interface_added i
block_event_of (contents.Frame f) = frame_came (frame_of f)
block_event_of contents.Other = passed_over

-- a block of a section with these interfaces has this meaning
abbrev pub BlockSays : List Interface → ByteOrder → List ℕ → BlockEvent → Type 0
BlockSays interfaces order block section_begins =
    (block_kind order block ≡ SectionHeader) × (28 ≤ length block)
    × IsSectionVersion order block
BlockSays interfaces order block (interface_added i) =
    (block_kind order block ≡ Description) × Describes order block i
BlockSays interfaces order block (frame_came f) = HasFrame interfaces order block f
BlockSays interfaces order block passed_over = block_kind order block ≡ Unread

-- the block is a packet's, of an interface that isn't described
pub record HasUnknownInterface (interfaces : List Interface) (order : ByteOrder) (block : List ℕ)
    : Type 0 where
  pub kind : BlockKind
  pub kind_is : kind ≡ block_kind order block
  pub is_packet : IsPacketKind kind
  pub there : fixed_len kind ≤ length block
  pub unknown : slice_get interfaces (interface_in kind order block) ≡ None

-- the block is a packet's, and ends before its frame
pub record HasCutFrame (interfaces : List Interface) (order : ByteOrder) (block : List ℕ)
    : Type 0 where
  pub kind : BlockKind
  pub kind_is : kind ≡ block_kind order block
  pub is_packet : IsPacketKind kind
  pub there : fixed_len kind ≤ length block
  pub interface : Interface
  pub interface_is : slice_get interfaces (interface_in kind order block) ≡ Some interface
  pub cut : length block < fixed_len kind + captured_in kind order interface block

-- why a block has no meaning: it is cut, or one of these faults, which exclude each other
abbrev pub HasBlockFault : List Interface → ByteOrder → List ℕ → CaptureFault → Type 0
HasBlockFault interfaces order block fault =
    ((length block < fixed_len (block_kind order block)) × (fault ≡ ShortBlock))
    ⊎ ((block_kind order block ≡ SectionHeader) × (28 ≤ length block)
    × (IsSectionVersion order block → ⊥) × (fault ≡ UnknownVersion))
    ⊎ ((block_kind order block ≡ Description) × HasCutOption order block
    × (fault ≡ OptionPastBlock))
    ⊎ (HasUnknownInterface interfaces order block × (fault ≡ UnknownInterface))
    ⊎ (HasCutFrame interfaces order block × (fault ≡ FramePastBlock))
