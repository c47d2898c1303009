-- One piece of a packet capture: what it counts, and the step that it is.
use Rattle.std.proofs.Common.{◌≡◌, ℕ, List, [], ◌∷◌, ◌++◌, Option, Some, None, length, drop, refl, sym, subst, append-nil, inl, inr, arith}
use Rattle.std.proofs.lemmas.List.{drop-append-le}
use Rattle.feed_types.specs.declared.line.LineId.{LineId}
use Rattle.feed_types.specs.declared.line.LineId.TheVariants.{A, B, Recovery}
use Rattle.feed_types.specs.Text.{line_letter}
use Rattle.packet_capture.specs.declared.stop.NoPiece.{NoPiece}
use Rattle.packet_capture.specs.declared.stop.NoPiece.TheVariants as stops
use Rattle.packet_capture.specs.Captures.{Context, PieceContent, IsPiece, StopsReading, frames_in, list_of}
use Rattle.packet_capture.specs.Frames.{FrameContent}
use Rattle.capture_records.specs.Capture.{CaptureRecord, IsKind, IsRecord, record_of}
use Rattle.capture_records.specs.declared.record_format.Step.{Step}
use Rattle.capture_records.specs.declared.record_format.Step.TheVariants.{Came, Passed, Wants, Bad}
use Rattle.capture_records.specs.Formats.{TimedRecord, TakesPiece, StepsTo, timed_record}
use Rattle.run_settings.specs.declared.captured_line.CapturedLine.{CapturedLine}
use Rattle.line_captures.specs.declared.bad_piece.BadPiece.{BadPiece}
use Rattle.line_captures.specs.Counts.{CountsPieces}
use Rattle.run_settings.specs.Lists.{AreOfVenues}
use Rattle.line_captures.specs.Records.{AreOfFrame, IsOfLine}
use Rattle.line_captures.specs.PacketFormats.{PacketState, AreTimed, ReadsPackets, IsStepOf, IsStopStep, wants_packets, is_bad_packets}
use Rattle.packet_capture.specs.laws.Fronts.{piece_len, few_unread}

-- ---- a record

kind_of : (line : LineId) (len : ℕ) → IsKind (line_letter line) len
kind_of A len = inl refl
kind_of B len = inr (inl refl)
kind_of Recovery len = inr (inr (inl refl))

-- a record of a line is one of the venues
pub record_ok : (venues : ℕ) (lines : List CapturedLine) (r : CaptureRecord) → IsOfLine lines r
    → AreOfVenues venues lines → IsRecord venues r
record_ok venues lines r o of = rw o.is (record {
  venue = of o.place o.line o.listed;
  kind =
      kind_of o.line.line (length o.bytes);
  len = o.short;
  number = tt;
})

-- the records of a frame
pub one_timed : (lines : List CapturedLine) (p : PieceContent) (f : FrameContent)
    (r : CaptureRecord) → p.frame ≡ Some f → AreOfFrame lines f (r ∷ [])
    → AreTimed lines (frames_in p) (timed_record r f.time ∷ [])
one_timed lines p f r framed h =
    subst (λ (o : Option FrameContent). AreTimed lines (list_of o) (timed_record r f.time ∷ []))
    (sym framed) (r ∷ [], [], h, refl, refl)

pub none_timed : (lines : List CapturedLine) (p : PieceContent) (f : FrameContent)
    → p.frame ≡ Some f → AreOfFrame lines f [] → AreTimed lines (frames_in p) []
none_timed lines p f framed h = subst (λ (o : Option FrameContent). AreTimed lines (list_of o) [])
    (sym framed) ([], [], h, refl, refl)

pub silent_timed : (lines : List CapturedLine) (p : PieceContent) → p.frame ≡ None
    → AreTimed lines (frames_in p) []
silent_timed lines p unframed = subst (λ (o : Option FrameContent). AreTimed lines (list_of o) [])
    (sym unframed) refl

-- ---- steps

abbrev Lasts : Type 0
Lasts = (before after : Context) (bytes more : List ℕ) (p : PieceContent)
    → IsPiece before bytes p after → IsPiece before (bytes ++ more) p after

-- a piece with its records
piece_read : Lasts → (s t : PacketState) (bytes : List ℕ) (p : PieceContent) (rs : List TimedRecord)
    → IsPiece s.context bytes p t.context → t.lines ≡ s.lines → t.venues ≡ s.venues
    → CountsPieces s.lines s.progress (p ∷ []) t.progress → AreTimed s.lines (frames_in p) rs
    → TakesPiece ReadsPackets s bytes rs p.len t
piece_read law s t bytes p rs is lines venues counts timed =
    let len = piece_len s.context bytes p t.context is in
    let left : (more : List ℕ) → drop p.len bytes ++ more ≡ drop p.len (bytes ++ more) =
    λ more. sym (drop-append-le p.len bytes more len.1) in
    record {
      some = len.0;
      within = len.1;
      read = record {
        pieces = p ∷ [];
        are = λ more. (t.context, law s.context t.context bytes more p is, (refl, left more));
        timed = subst (λ (fs : List FrameContent). AreTimed s.lines fs rs)
            (sym (append-nil (frames_in p))) timed;
        counts = counts;
        lines = lines;
        venues = venues;
      };
    }

pub step_read : Lasts → (s t : PacketState) (bytes : List ℕ) (p : PieceContent)
    (step : Step BadPiece) → IsPiece s.context bytes p t.context → t.lines ≡ s.lines
    → t.venues ≡ s.venues → CountsPieces s.lines s.progress (p ∷ []) t.progress
    → IsStepOf s.lines p step
    → StepsTo ReadsPackets wants_packets is_bad_packets s bytes step t
step_read law s t bytes p (Came len time r) is lines venues counts k =
    subst (λ (n : ℕ). TakesPiece ReadsPackets s bytes (timed_record (record_of r) time ∷ []) n t)
    (sym k.0) (piece_read law s t bytes p _ is lines venues counts k.1)
step_read law s t bytes p (Passed len) is lines venues counts k =
    subst (λ (n : ℕ). TakesPiece ReadsPackets s bytes [] n t) (sym k.0) (piece_read law s t bytes p
    _ is lines venues counts k.1)
step_read law s t bytes p Wants is lines venues counts k = absurd k
step_read law s t bytes p (Bad bad) is lines venues counts k = absurd k

pub stop_read : (s t : PacketState) (bytes : List ℕ) (stop : NoPiece) (step : Step BadPiece)
    → StopsReading s.context bytes stop → t ≡ s → IsStopStep stop bytes step
    → StepsTo ReadsPackets wants_packets is_bad_packets s bytes step t
stop_read s t bytes (stops.Wants n) Wants why same k = let few = few_unread s.context bytes n why
    in ((n, why), omega (arith, few), same)
stop_read s t bytes (stops.Bad fault) (Bad bad) why same k = ((rw k.0 why, k.1), same)
stop_read s t bytes (stops.Wants n) (Came len time r) why same k = absurd k
stop_read s t bytes (stops.Wants n) (Passed len) why same k = absurd k
stop_read s t bytes (stops.Wants n) (Bad bad) why same k = absurd k
stop_read s t bytes (stops.Bad fault) (Came len time r) why same k = absurd k
stop_read s t bytes (stops.Bad fault) (Passed len) why same k = absurd k
stop_read s t bytes (stops.Bad fault) Wants why same k = absurd k
