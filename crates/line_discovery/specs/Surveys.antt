-- Surveys of packet captures: a format without records, of which the frames are counted.
use Rattle.std.specs.Prelude.{◌≡◌, ◌≢◌, ℕ, List, [], ◌∷◌, ◌++◌, flat_map}
use Rattle.std.specs.List.{AllZip}
use Rattle.packet_capture.specs.declared.reader.Format.TheVariants.{Start}
use Rattle.packet_capture.specs.declared.stop.NoPiece.{NoPiece}
use Rattle.packet_capture.specs.declared.stop.NoPiece.TheVariants as stops
use Rattle.packet_capture.specs.Captures.{PieceContent, ArePieces, StopsReading, frames_of, new_context}
use Rattle.capture_records.specs.declared.record_format.Step.{Step}
use Rattle.capture_records.specs.declared.record_format.Step.TheVariants.{Wants, Bad}
use Rattle.capture_records.specs.Formats.{TimedRecord, Parsing}
use Rattle.line_captures.specs.declared.bad_piece.BadPiece.{BadPiece}
use Rattle.line_captures.specs.Counts.{CountsPieces, counts_after, new_progress}
use Rattle.line_captures.specs.Starts.{start_of}
use Rattle.line_discovery.specs.declared.counts.SurveyCounts.{SurveyCounts}
use Rattle.line_discovery.specs.declared.frame_class.FrameClass.{FrameClass}
use Rattle.line_discovery.specs.declared.survey.EndpointSurvey.{EndpointSurvey}
use Rattle.line_discovery.specs.Sightings.{HasFate, frame_fate, others_in, packets_in}

abbrev pub new_counts : SurveyCounts
new_counts = record { progress = new_progress; lines = []; others = [] }

-- before the first piece
abbrev pub new_survey : EndpointSurvey
new_survey = record { capture = new_context; counts = new_counts }

-- These pieces were counted, as a replay counts them that reads no line, and their datagrams by the
-- fates of their frames.
pub record CountsSightings (before : SurveyCounts)
    (pieces : List PieceContent) (after : SurveyCounts)
    : Type 0 where
  pub fates : List FrameClass
  pub are : AllZip HasFate (frames_of pieces) fates
  pub progress : CountsPieces [] before.progress pieces after.progress
  pub lines : after.lines ≡ before.lines ++ flat_map packets_in fates
  pub others : after.others ≡ before.others ++ flat_map others_in fates

-- The bytes begin with whole pieces, whatever follows, which are counted. There is no record.
pub record ReadsSurvey (before : EndpointSurvey) (bytes : List ℕ) (records : List TimedRecord)
    (after : EndpointSurvey) (rest : List ℕ) : Type 0 where
  pub pieces : List PieceContent
  pub are : (more : List ℕ)
      → ArePieces before.capture (bytes ++ more) pieces after.capture (rest ++ more)
  pub none : records ≡ []
  pub counts : CountsSightings before.counts pieces after.counts

-- less than a piece stands there
abbrev pub wants_piece : EndpointSurvey → List ℕ → Type 0
wants_piece s bytes = (n : ℕ) × StopsReading s.capture bytes (stops.Wants n)

-- no piece stands there, but bytes that start so
abbrev pub is_bad_piece : EndpointSurvey → List ℕ → BadPiece → Type 0
is_bad_piece s bytes bad =
    StopsReading s.capture bytes (stops.Bad bad.fault) × (bad.start ≡ start_of bytes)

-- a piece at least was read
abbrev pub is_begun : EndpointSurvey → Type 0
is_begun s = s.capture.format ≢ Start

-- how surveys go on
abbrev pub survey_parsing : Parsing EndpointSurvey BadPiece
survey_parsing = record {
  reads = ReadsSurvey;
  wants = wants_piece;
  is_bad = is_bad_piece;
  is_whole = is_begun;
}

-- ---- one step. Only private clauses cite this part.

-- the counts after a frame of this fate
pub record CountsFate (fate : FrameClass) (before after : SurveyCounts) : Type 0 where
  pub progress : after.progress ≡ record before.progress {
    counts = counts_after before.progress.counts (frame_fate fate ∷ []) 0;
  }
  pub lines : after.lines ≡ before.lines ++ packets_in fate
  pub others : after.others ≡ before.others ++ others_in fate

-- the step where no piece is read, at these bytes
abbrev pub StopsSurvey : NoPiece → List ℕ → Step BadPiece → Type 0
StopsSurvey (stops.Wants n) bytes Wants = Unit {0}
StopsSurvey (stops.Bad fault) bytes (Bad bad) = (bad.fault ≡ fault) × (bad.start ≡ start_of bytes)
StopsSurvey stop bytes step = ⊥
