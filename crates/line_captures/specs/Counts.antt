-- What is counted of the frames of a packet capture. A count stays at 2^64 - 1 once it is there.
use Rattle.std.specs.Prelude.{◌≡◌, ℕ, ◌+◌, ◌==◌, ◌&&◌, Bool, true, false, List, [], ◌∷◌, length, nat_lt, if◌then◌else◌, max, min, flat_map, Option, Some, None}
use Rattle.std.specs.List.{AllZip, count_by, sum_by}
use Rattle.std.specs.Option.{option_to_list}
use Rattle.packet_capture.specs.declared.fault.FrameFault.{FrameFault}
use Rattle.packet_capture.specs.declared.fault.FrameFault.TheVariants.{UnknownLink, NotIp, ShortFrame, BadIpHeader, NotUdp, Fragment, ExtensionHeader, BadUdpLength}
use Rattle.packet_capture.specs.Captures.{PieceContent, frames_of}
use Rattle.packet_capture.specs.Datagrams.{DatagramContent, CarriesDatagram}
use Rattle.packet_capture.specs.FrameFaults.{HasFrameFault}
use Rattle.packet_capture.specs.Frames.{FrameContent}
use Rattle.run_settings.specs.declared.captured_line.CapturedLine.{CapturedLine}
use Rattle.line_captures.specs.declared.frame_counts.FrameCounts.{FrameCounts}
use Rattle.line_captures.specs.declared.progress.Progress.{Progress}
use Rattle.feed_types.specs.FullCounts.{count_after}
use Rattle.line_captures.specs.DropCounts.{drops_after, drops_of, no_drops}
use Rattle.line_captures.specs.Lines.{GoesTo, GoesToNone}

-- what becomes of a frame: its datagram goes to a line, or to none, or it carries no datagram
pub data FrameFate : Type 0 where
  to_line : FrameFate
  elsewhere : FrameFate
  no_datagram : (fault : FrameFault) → FrameFate

abbrev pub IsFate : List CapturedLine → FrameContent → FrameFate → Type 0
IsFate lines frame to_line =
    (d : DatagramContent) × (line : CapturedLine) × CarriesDatagram frame.link frame.bytes d
    × GoesTo lines d line
IsFate lines frame elsewhere =
    (d : DatagramContent) × CarriesDatagram frame.link frame.bytes d × GoesToNone lines d
IsFate lines frame (no_datagram fault) = HasFrameFault frame.link frame.bytes fault

abbrev pub goes_to_line : FrameFate → Bool
goes_to_line to_line = true
goes_to_line _ = false

abbrev pub goes_elsewhere : FrameFate → Bool
goes_elsewhere elsewhere = true
goes_elsewhere _ = false

-- whether the fate is a fault of this kind
abbrev pub is_without : (FrameFault → Bool) → FrameFate → Bool
is_without kind to_line = false
is_without kind elsewhere = false
is_without kind (no_datagram fault) = kind fault

-- the kinds of faults that are counted together: each fault is of one
abbrev pub is_no_ip : FrameFault → Bool
is_no_ip NotIp = true
is_no_ip _ = false

abbrev pub is_no_udp : FrameFault → Bool
is_no_udp NotUdp = true
is_no_udp _ = false

abbrev pub is_fragment : FrameFault → Bool
is_fragment Fragment = true
is_fragment _ = false

abbrev pub is_cut : FrameFault → Bool
is_cut ShortFrame = true
is_cut _ = false

abbrev pub is_malformed : FrameFault → Bool
is_malformed BadIpHeader = true
is_malformed BadUdpLength = true
is_malformed _ = false

abbrev pub is_unreadable : FrameFault → Bool
is_unreadable UnknownLink = true
is_unreadable ExtensionHeader = true
is_unreadable _ = false

-- the times of the frames that have one
abbrev pub times_in : FrameContent → List ℕ
times_in frame = option_to_list frame.time

abbrev pub times_of : List FrameContent → List ℕ
times_of frames = flat_map times_in frames

-- the latest of this time and those after it
abbrev pub latest_after : ℕ → List ℕ → ℕ
latest_after latest [] = latest
latest_after latest (time ∷ times) = latest_after (max latest time) times

-- how many times are before the latest of this one and of those that stand before them
abbrev pub falls_after : ℕ → List ℕ → ℕ
falls_after latest [] = 0
falls_after latest (time ∷ times) =
    (if nat_lt time latest then 1 else 0) + falls_after (max latest time) times

-- the counts after frames with these fates, and after this many that are out of time order
abbrev pub counts_after : FrameCounts → List FrameFate → ℕ → FrameCounts
counts_after counts fates falls = record {
  to_lines = count_after counts.to_lines (count_by goes_to_line fates);
  elsewhere = count_after counts.elsewhere (count_by goes_elsewhere fates);
  no_ip = count_after counts.no_ip (count_by (is_without is_no_ip) fates);
  no_udp = count_after counts.no_udp (count_by (is_without is_no_udp) fates);
  fragments = count_after counts.fragments (count_by (is_without is_fragment) fates);
  cut = count_after counts.cut (count_by (is_without is_cut) fates);
  malformed = count_after counts.malformed (count_by (is_without is_malformed) fates);
  not_read = count_after counts.not_read (count_by (is_without is_unreadable) fates);
  disordered = count_after counts.disordered falls;
}

-- how many frames there are
abbrev pub total_of : FrameCounts → ℕ
total_of c =
    min (c.to_lines + c.elsewhere + (c.no_ip + c.no_udp + c.fragments)
    + (c.cut + c.malformed + c.not_read)) 18446744073709551615

-- a frame that has no byte, and had none on the wire
abbrev pub is_empty : FrameContent → Bool
is_empty frame = (length frame.bytes == 0) && (frame.wire_len == 0)

-- at which byte the first piece with such a frame begins, where one of this frame begins at this
-- byte
abbrev pub second_after : Option ℕ → ℕ → Option FrameContent → Option ℕ
second_after (Some at) position frame = Some at
second_after None position None = None
second_after None position (Some frame) = if is_empty frame then Some position else None

-- the same for pieces from this byte on
abbrev pub second_of : Option ℕ → ℕ → List PieceContent → Option ℕ
second_of found position [] = found
second_of found position (piece ∷ pieces) =
    second_of (second_after found position piece.frame) (count_after position piece.len) pieces

-- What was counted of these pieces: their bytes, where a second capture seems to begin, the
-- latest time, the fates of their frames, and what they say of dropped ones.
pub record CountsPieces (lines : List CapturedLine) (before : Progress) (pieces : List PieceContent)
    (after : Progress) : Type 0 where
  pub fates : List FrameFate
  pub are : AllZip (IsFate lines) (frames_of pieces) fates
  pub position : after.position ≡ count_after before.position (sum_by (λ piece. piece.len) pieces)
  pub second_start : after.second_start ≡ second_of before.second_start before.position pieces
  pub latest_time : after.latest_time
      ≡ latest_after before.latest_time (times_of (frames_of pieces))
  pub counts : after.counts
      ≡ counts_after before.counts fates
      (falls_after before.latest_time (times_of (frames_of pieces)))
  pub drops : after.drops ≡ drops_of before.drops pieces

-- before the first piece
abbrev pub new_progress : Progress
new_progress = record {
  position = 0;
  second_start = None;
  latest_time = 0;
  counts = record {
    to_lines = 0;
    elsewhere = 0;
    no_ip = 0;
    no_udp = 0;
    fragments = 0;
    cut = 0;
    malformed = 0;
    not_read = 0;
    disordered = 0;
  };
  drops = no_drops;
}

-- ---- one frame. Only private clauses cite this part.

-- a frame is counted by its fate
pub record CountsFrame (lines : List CapturedLine) (frame : FrameContent)
    (before after : FrameCounts) : Type 0 where
  pub fate : FrameFate
  pub is : IsFate lines frame fate
  pub after_is : after ≡ counts_after before (fate ∷ []) 0

-- the progress after a piece, but for the frame in it
abbrev pub piece_after : Progress → PieceContent → Progress
piece_after progress piece = record progress {
  position = count_after progress.position piece.len;
  second_start = second_after progress.second_start progress.position piece.frame;
  drops = drops_after progress.drops piece.dropped;
}

-- the progress after the time of a frame, if it has one
abbrev pub timed_after : Progress → Option ℕ → Progress
timed_after progress time = record progress {
  latest_time = latest_after progress.latest_time (option_to_list time);
  counts = counts_after progress.counts [] (falls_after progress.latest_time (option_to_list time));
}
