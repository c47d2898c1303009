-- Packet captures for lines, as a format of records.
use Rattle.std.specs.Prelude.{◌≡◌, ◌≢◌, ℕ, List, [], ◌∷◌, ◌++◌, map}
use Rattle.packet_capture.specs.declared.reader.Format.TheVariants.{Start}
use Rattle.packet_capture.specs.declared.stop.NoPiece.{NoPiece}
use Rattle.packet_capture.specs.declared.stop.NoPiece.TheVariants as stops
use Rattle.packet_capture.specs.Captures.{Context, PieceContent, IsCapture, ArePieces, StopsReading, frames_in, frames_of, new_context}
use Rattle.packet_capture.specs.Frames.{FrameContent}
use Rattle.capture_records.specs.Capture.{CaptureRecord, record_of}
use Rattle.capture_records.specs.declared.capture.Record.{Record}
use Rattle.capture_records.specs.declared.capture.Record.TheVariants.{Datagram}
use Rattle.capture_records.specs.declared.record_format.Step.{Step}
use Rattle.capture_records.specs.declared.record_format.Step.TheVariants.{Came, Passed, Wants, Bad}
use Rattle.capture_records.specs.Formats.{TimedRecord, Parsing, timed_record}
use Rattle.run_settings.specs.declared.captured_line.CapturedLine.{CapturedLine}
use Rattle.line_captures.specs.declared.bad_piece.BadPiece.{BadPiece}
use Rattle.line_captures.specs.declared.piece_step.LineDatagram.{LineDatagram}
use Rattle.line_captures.specs.declared.piece_step.PieceStep.{PieceStep}
use Rattle.line_captures.specs.declared.piece_step.PieceStep.TheVariants as steps
use Rattle.line_captures.specs.declared.progress.Progress.{Progress}
use Rattle.line_captures.specs.Counts.{CountsPieces, new_progress}
use Rattle.line_captures.specs.Records.{AreOfFrame}
use Rattle.line_captures.specs.Starts.{start_of}

-- the lines, of which there are this many venues, what the pieces that were read say of the next
-- one, and what was counted of them
pub record PacketState : Type 0 where
  pub lines : List CapturedLine
  pub venues : ℕ
  pub context : Context
  pub progress : Progress

-- before the first piece
abbrev pub new_packets : ℕ → List CapturedLine → PacketState
new_packets venues lines = record {
  lines = lines;
  venues = venues;
  context = new_context;
  progress = new_progress;
}

-- a record at the time of its frame
abbrev pub timed_at : FrameContent → CaptureRecord → TimedRecord
timed_at frame what = timed_record what frame.time

-- the records of frames, one frame after the other, each at the time of its frame
abbrev pub AreTimed : List CapturedLine → List FrameContent → List TimedRecord → Type 0
AreTimed lines [] records = records ≡ []
AreTimed lines (frame ∷ frames) records =
    (first : List CaptureRecord) × (others : List TimedRecord)
    × AreOfFrame lines frame first × AreTimed lines frames others
    × (records ≡ map (timed_at frame) first ++ others)

-- The bytes begin with whole pieces, whatever follows, which are counted, and these are the records
-- of their frames.
pub record ReadsPackets (before : PacketState) (bytes : List ℕ) (records : List TimedRecord)
    (after : PacketState) (rest : List ℕ) : Type 0 where
  pub pieces : List PieceContent
  pub are : (more : List ℕ)
      → ArePieces before.context (bytes ++ more) pieces after.context (rest ++ more)
  pub timed : AreTimed before.lines (frames_of pieces) records
  pub counts : CountsPieces before.lines before.progress pieces after.progress
  pub lines : after.lines ≡ before.lines
  pub venues : after.venues ≡ before.venues

-- less than a piece stands there
abbrev pub wants_packets : PacketState → List ℕ → Type 0
wants_packets s bytes = (n : ℕ) × StopsReading s.context bytes (stops.Wants n)

-- no piece stands there, but bytes that start so
abbrev pub is_bad_packets : PacketState → List ℕ → BadPiece → Type 0
is_bad_packets s bytes bad =
    StopsReading s.context bytes (stops.Bad bad.fault) × (bad.start ≡ start_of bytes)

-- a piece at least was read
abbrev pub is_whole_packets : PacketState → Type 0
is_whole_packets s = s.context.format ≢ Start

-- how packet captures go on
abbrev pub packet_parsing : Parsing PacketState BadPiece
packet_parsing = record {
  reads = ReadsPackets;
  wants = wants_packets;
  is_bad = is_bad_packets;
  is_whole = is_whole_packets;
}

-- the bytes are a whole capture, and these are its records
pub record IsCaptureOf (lines : List CapturedLine) (bytes : List ℕ) (records : List TimedRecord)
    : Type 0 where
  pub frames : List FrameContent
  pub capture : IsCapture bytes frames
  pub are : AreTimed lines frames records

-- ---- one step. Only private clauses cite this part.

-- the state with these parts
abbrev pub packet_state : ℕ → List CapturedLine → Context → Progress → PacketState
packet_state venues lines context progress = record {
  lines = lines;
  venues = venues;
  context = context;
  progress = progress;
}

-- the record of a datagram that came on a line
abbrev pub record_on_line : LineDatagram → Record
record_on_line d = Datagram d.venue d.line d.bytes

-- a step as a replay takes it
abbrev pub step_from : PieceStep → Step BadPiece
step_from (steps.Came len venue line bytes time) = Came len time (Datagram venue line bytes)
step_from (steps.Passed len) = Passed len
step_from steps.Wants = Wants
step_from (steps.Bad bad) = Bad bad

-- the step of a piece
abbrev pub IsStepOf : List CapturedLine → PieceContent → Step BadPiece → Type 0
IsStepOf lines piece (Came len time r) =
    (len ≡ piece.len) × AreTimed lines (frames_in piece) (timed_record (record_of r) time ∷ [])
IsStepOf lines piece (Passed len) = (len ≡ piece.len) × AreTimed lines (frames_in piece) []
IsStepOf lines piece Wants = ⊥
IsStepOf lines piece (Bad bad) = ⊥

-- the step where no piece is read, at these bytes
abbrev pub IsStopStep : NoPiece → List ℕ → Step BadPiece → Type 0
IsStopStep (stops.Wants n) bytes Wants = Unit {0}
IsStopStep (stops.Bad fault) bytes (Bad bad) = (bad.fault ≡ fault) × (bad.start ≡ start_of bytes)
IsStopStep stop bytes step = ⊥
