-- Savefiles and frames as they are written, which read back: stated apart from their reading.
use Rattle.std.specs.Prelude.{ℕ, ◌+◌, ◌*◌, ◌/◌, ◌%◌, ◌^◌, ◌<◌, ◌≤◌, Bool, true, false, List, [], ◌∷◌, ◌++◌, length, flat_map, Some, if◌then◌else◌}
use Rattle.packet_capture.specs.declared.fields.ByteOrder.{ByteOrder}
use Rattle.packet_capture.specs.declared.fields.ByteOrder.TheVariants.{Big, Little}
use Rattle.packet_capture.specs.Frames.{FrameContent}

-- numbers of two and four bytes
abbrev pub u16_bytes : ByteOrder → ℕ → List ℕ
u16_bytes Big n = n / 256 ∷ n % 256 ∷ []
u16_bytes Little n = n % 256 ∷ n / 256 ∷ []

abbrev pub u32_bytes : ByteOrder → ℕ → List ℕ
u32_bytes Big n = u16_bytes Big (n / 65536) ++ u16_bytes Big (n % 65536)
u32_bytes Little n = u16_bytes Little (n % 65536) ++ u16_bytes Little (n / 65536)

-- the number that a savefile begins with, by whether its times are in nanoseconds
abbrev pub magic_number : Bool → ℕ
magic_number true = 2712812621
magic_number false = 2712847316

-- a savefile's header: its magic, version 2.4, two numbers that are 0, the longest frame, and the
-- link type
abbrev pub header_bytes : ByteOrder → Bool → ℕ → ℕ → List ℕ
header_bytes order nanoseconds longest link =
    u32_bytes order (magic_number nanoseconds)
    ++ (u16_bytes order 2 ++ (u16_bytes order 4
    ++ (u32_bytes order 0 ++ (u32_bytes order 0
    ++ (u32_bytes order longest ++ u32_bytes order link)))))

-- a frame as it is written: its second, the parts of it, its length on the wire, and what was
-- captured
pub record WrittenFrame : Type 0 where
  pub seconds : ℕ
  pub parts : ℕ
  pub wire_len : ℕ
  pub bytes : List ℕ

pub record IsWrittenFrame (f : WrittenFrame) : Type 0 where
  pub seconds : f.seconds < 2 ^ 32
  pub parts : f.parts < 2 ^ 32
  pub wire_len : f.wire_len < 2 ^ 32
  pub short : length f.bytes ≤ 1048576

-- a frame's packet record
abbrev pub record_bytes : ByteOrder → WrittenFrame → List ℕ
record_bytes order f =
    u32_bytes order f.seconds
    ++ (u32_bytes order f.parts
    ++ (u32_bytes order (length f.bytes)
    ++ (u32_bytes order f.wire_len ++ f.bytes)))

-- a savefile of frames
abbrev pub savefile_bytes : ByteOrder → Bool → ℕ → ℕ → List WrittenFrame → List ℕ
savefile_bytes order nanoseconds longest link frames =
    header_bytes order nanoseconds longest link ++ flat_map (record_bytes order) frames

-- the frame that was written
abbrev pub written_frame : Bool → ℕ → WrittenFrame → FrameContent
written_frame nanoseconds link f = record {
  link = link;
  time = Some (f.seconds * 1000000000 + f.parts * (if nanoseconds then 1 else 1000));
  wire_len = f.wire_len;
  bytes = f.bytes;
}
