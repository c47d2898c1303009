-- The records of a packet capture for lines: those of the datagrams that its frames carry to them,
-- in the order of the frames.
use Rattle.std.specs.Prelude.{◌≡◌, ℕ, ◌<◌, ◌⊎◌, List, [], ◌∷◌, length, Some, slice_get}
use Rattle.packet_capture.specs.declared.fault.FrameFault.{FrameFault}
use Rattle.packet_capture.specs.Datagrams.{DatagramContent, CarriesDatagram}
use Rattle.packet_capture.specs.FrameFaults.{HasFrameFault}
use Rattle.packet_capture.specs.Frames.{FrameContent}
use Rattle.capture_records.specs.Capture.{CaptureRecord, datagram_record}
use Rattle.run_settings.specs.declared.captured_line.CapturedLine.{CapturedLine}
use Rattle.line_captures.specs.Lines.{GoesTo, GoesToNone}

-- the record of a datagram that came on a line
abbrev pub record_on : CapturedLine → DatagramContent → CaptureRecord
record_on line d = datagram_record line.venue line.line d.bytes

-- a datagram's records: one where it goes to a line, else none
abbrev pub AreOfDatagram : List CapturedLine → DatagramContent → List CaptureRecord → Type 0
AreOfDatagram lines d records =
    ((line : CapturedLine) × GoesTo lines d line × (records ≡ record_on line d ∷ []))
    ⊎ (GoesToNone lines d × (records ≡ []))

-- a frame's records: those of its datagram, and none where it carries none
abbrev pub AreOfFrame : List CapturedLine → FrameContent → List CaptureRecord → Type 0
AreOfFrame lines frame records =
    ((d : DatagramContent) × CarriesDatagram frame.link frame.bytes d
    × AreOfDatagram lines d records)
    ⊎ ((fault : FrameFault) × HasFrameFault frame.link frame.bytes fault × (records ≡ []))

-- a record of some line, of which the length fits into two bytes
pub record IsOfLine (lines : List CapturedLine) (r : CaptureRecord) : Type 0 where
  pub line : CapturedLine
  pub bytes : List ℕ
  pub is : r ≡ datagram_record line.venue line.line bytes
  pub place : ℕ
  pub listed : Some line ≡ slice_get lines place
  pub short : length bytes < 65536
