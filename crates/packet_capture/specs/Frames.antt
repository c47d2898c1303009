-- A frame of a capture.
use Rattle.std.specs.Prelude.{ℕ, List, Option}
use Rattle.packet_capture.specs.declared.frame.Frame.{Frame}

-- the number of its link type, its time in nanoseconds from 1970 on, if any, its length in bytes on
-- the wire, and the bytes that were captured
pub record FrameContent : Type 0 where
  pub link : ℕ
  pub time : Option ℕ
  pub wire_len : ℕ
  pub bytes : List ℕ

abbrev pub frame_of : Frame → FrameContent
frame_of f = record { link = f.link; time = f.time; wire_len = f.wire_len; bytes = f.bytes.now }
