-- Savefiles: PCAP Capture File Format, draft-ietf-opsawg-pcap, sections 4 and 5.
use Rattle.std.specs.Prelude.{◌≡◌, ℕ, ◌+◌, ◌*◌, ◌%◌, ◌≤◌, ◌==◌, Bool, true, false, List, length, Option, Some, None, if◌then◌else◌}
use Rattle.packet_capture.specs.declared.fields.ByteOrder.TheVariants.{Big, Little}
use Rattle.packet_capture.specs.declared.savefile.Magic.{Magic}
use Rattle.packet_capture.specs.declared.savefile.Savefile.{Savefile}
use Rattle.packet_capture.specs.Fields.{u16_in, u32_in, bytes_at}
use Rattle.packet_capture.specs.Frames.{FrameContent}

-- the byte order, and whether times are in nanoseconds or in microseconds
abbrev pub magic_of : Bool → Bool → Magic
magic_of big nanoseconds =
    record { order = if big then Big else Little; nanoseconds = nanoseconds }

-- a1b2c3d4 means microseconds and a1b23c4d nanoseconds, in the byte order of all numbers
abbrev pub magic_at : List ℕ → Option Magic
magic_at bytes =
    if u32_in Big bytes 0 == 2712847316 then Some (magic_of true false)
    else (if u32_in Big bytes 0 == 2712812621 then Some (magic_of true true)
    else (if u32_in Little bytes 0 == 2712847316 then Some (magic_of false false)
    else (if u32_in Little bytes 0 == 2712812621 then Some (magic_of false true) else None)))

-- version 2.4
abbrev pub IsVersion : Magic → List ℕ → Type 0
IsVersion magic bytes = (u16_in magic.order bytes 4 ≡ 2) × (u16_in magic.order bytes 6 ≡ 4)

-- the savefile that the header begins. The link type is the lower half of its last field, whose
-- upper half says how many bytes of a check are at the end of frames
abbrev pub savefile_at : Magic → List ℕ → Savefile
savefile_at magic bytes =
    record { magic = magic; link = u32_in magic.order bytes 20 % 65536 }

-- the bytes begin with the header of this savefile, of 24 bytes
pub record BeginsSavefile (bytes : List ℕ) (savefile : Savefile) : Type 0 where
  pub there : 24 ≤ length bytes
  pub magic : Magic
  pub magic_is : magic_at bytes ≡ Some magic
  pub version : IsVersion magic bytes
  pub is : savefile ≡ savefile_at magic bytes

-- the header of another version
pub record HasOtherVersion (bytes : List ℕ) : Type 0 where
  pub there : 24 ≤ length bytes
  pub magic : Magic
  pub magic_is : magic_at bytes ≡ Some magic
  pub other : IsVersion magic bytes → ⊥

-- the number of bytes of a packet record's frame that were captured
abbrev pub captured_at : Savefile → List ℕ → ℕ
captured_at s bytes = u32_in s.magic.order bytes 8

-- the time of a packet record: its seconds, and the parts of a second
abbrev pub record_time : Savefile → List ℕ → ℕ
record_time s bytes =
    u32_in s.magic.order bytes 0 * 1000000000
    + u32_in s.magic.order bytes 4 * (if s.magic.nanoseconds then 1 else 1000)

-- a packet record: 16 bytes, and then those of its frame
pub record IsPacketRecord (s : Savefile) (bytes : List ℕ) (frame : FrameContent) : Type 0 where
  pub there : 16 ≤ length bytes
  pub short : captured_at s bytes ≤ 1048576
  pub whole : 16 + captured_at s bytes ≤ length bytes
  pub link : frame.link ≡ s.link
  pub time : frame.time ≡ Some (record_time s bytes)
  pub wire_len : frame.wire_len ≡ u32_in s.magic.order bytes 12
  pub bytes_are : frame.bytes ≡ bytes_at bytes 16 (captured_at s bytes)
