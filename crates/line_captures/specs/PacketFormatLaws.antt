-- Laws of packet captures as a format of records.
use Rattle.std.proofs.Common.{◌≡◌, ℕ, List, [], ◌∷◌, ◌++◌, map, drop, append_assoc, append-nil, refl, sym, ap, subst, ◌∙◌}
use Rattle.std.proofs.lemmas.Grind.{flat_map-append}
use Rattle.packet_capture.specs.Captures.{Context, PieceContent, ArePieces, frames_in, frames_of, new_context}
use Rattle.packet_capture.specs.Frames.{FrameContent}
use Rattle.capture_records.specs.Formats.{TimedRecord}
use Rattle.run_settings.specs.declared.captured_line.CapturedLine.{CapturedLine}
use Rattle.line_captures.specs.Counts.{CountsPieces}
use Rattle.line_captures.specs.CountLaws.{counts_none, counts_then}
use Rattle.line_captures.specs.PacketFormats.{PacketState, AreTimed, ReadsPackets, IsCaptureOf, is_whole_packets, new_packets, timed_at}

-- the same pieces, of what is the same
pieces_at : (a : Context) (x y r s : List ℕ) (ps : List PieceContent) (c : Context)
    → x ≡ y → r ≡ s → ArePieces a x ps c r → ArePieces a y ps c s
pieces_at a x y r s ps c d e h =
    subst (λ (z : List ℕ). ArePieces a y ps c z) e
    (subst (λ (z : List ℕ). ArePieces a z ps c r) d h)

-- pieces, and then more of what was left
pieces_append : (a b c : Context) (bytes mid rest : List ℕ) (ps qs : List PieceContent)
    → ArePieces a bytes ps b mid → ArePieces b mid qs c rest → ArePieces a bytes (ps ++ qs) c rest
pieces_append a b c bytes mid rest [] qs h k =
    pieces_at a mid bytes rest rest qs c h.1 refl
    (subst (λ (z : Context). ArePieces z mid qs c rest) h.0 k)
pieces_append a b c bytes mid rest (p ∷ ps) qs h k =
    (h.0, h.1, pieces_append h.0 b c (drop p.len bytes) mid rest ps qs h.2 k)

timed_append : (lines : List CapturedLine) (fs gs : List FrameContent) (rs qs : List TimedRecord)
    → AreTimed lines fs rs → AreTimed lines gs qs → AreTimed lines (fs ++ gs) (rs ++ qs)
timed_append lines [] gs rs qs h k =
    subst (λ (xs : List TimedRecord). AreTimed lines gs (xs ++ qs)) (sym h) k
timed_append lines (f ∷ fs) gs rs qs h k = (
  h.0,
  h.1 ++ qs,
  h.2,
  timed_append lines fs gs h.1 qs h.3 k,
  ap (λ (xs : List TimedRecord). xs ++ qs) h.4 ∙ append_assoc (map (timed_at f) h.0) h.1 qs,
)

-- no piece
pub packets_none : (s : PacketState) (bytes : List ℕ) → ReadsPackets s bytes [] s bytes
packets_none s bytes = record {
  pieces = [];
  are = λ more. (refl, refl);
  timed = refl;
  counts = counts_none s.lines s.progress;
  lines = refl;
  venues = refl;
}

-- pieces after pieces
pub packets_more : (s t u : PacketState) (xs ys zs : List ℕ) (rs qs : List TimedRecord)
    → ReadsPackets s xs rs t ys → ReadsPackets t ys qs u zs → ReadsPackets s xs (rs ++ qs) u zs
packets_more s t u xs ys zs rs qs a b =
    let T : List CapturedLine → Type 0 = λ lines. AreTimed lines (frames_of b.pieces) qs in
    let C : List CapturedLine → Type 0 =
    λ lines. CountsPieces lines t.progress b.pieces u.progress in
    record {
      pieces = a.pieces ++ b.pieces;
      are = λ more. pieces_append s.context t.context u.context (xs ++ more) (ys ++ more)
          (zs ++ more) a.pieces b.pieces (a.are more) (b.are more);
      timed = subst (λ (fs : List FrameContent). AreTimed s.lines fs (rs ++ qs))
          (sym (flat_map-append frames_in a.pieces b.pieces))
          (timed_append s.lines (frames_of a.pieces) (frames_of b.pieces) rs qs a.timed
          (subst T a.lines b.timed));
      counts = counts_then s.lines s.progress t.progress u.progress a.pieces b.pieces a.counts
          (subst C a.lines b.counts);
      lines = b.lines ∙ a.lines;
      venues = b.venues ∙ a.venues;
    }

-- whatever follows
pub packets_longer : (s t : PacketState) (xs ys more : List ℕ) (rs : List TimedRecord)
    → ReadsPackets s xs rs t ys → ReadsPackets s (xs ++ more) rs t (ys ++ more)
packets_longer s t xs ys more rs a = record {
  pieces = a.pieces;
  are = λ others. pieces_at s.context (xs ++ (more ++ others)) ((xs ++ more) ++ others)
      (ys ++ (more ++ others)) ((ys ++ more) ++ others) a.pieces t.context
      (sym (append_assoc xs more others)) (sym (append_assoc ys more others))
      (a.are (more ++ others));
  timed = a.timed;
  counts = a.counts;
  lines = a.lines;
  venues = a.venues;
}

-- the venues stay
pub packets_venues : (s t : PacketState) (xs ys : List ℕ) (rs : List TimedRecord)
    → ReadsPackets s xs rs t ys → t.venues ≡ s.venues
packets_venues s t xs ys rs a = a.venues

whole_capture : (lines : List CapturedLine) (bytes : List ℕ) (pieces : List PieceContent)
    (records : List TimedRecord) (after : PacketState)
    → ArePieces new_context bytes pieces after.context []
    → AreTimed lines (frames_of pieces) records → is_whole_packets after
    → IsCaptureOf lines bytes records
whole_capture lines bytes [] records after are timed begun =
    absurd (begun (ap (λ (c : Context). c.format) are.0))
whole_capture lines bytes (first ∷ others) records after are timed begun = record {
  frames = frames_of (first ∷ others);
  capture = record {
    first = first;
    others = others;
    after = after.context;
    are = are;
    frames_are = refl;
  };
  are = timed;
}

-- pieces with nothing after them, one at least, are a whole capture
pub whole_packets : (venues : ℕ) (lines : List CapturedLine) (bytes : List ℕ)
    (records : List TimedRecord) (after : PacketState)
    → ReadsPackets (new_packets venues lines) bytes records after [] → is_whole_packets after
    → IsCaptureOf lines bytes records
whole_packets venues lines bytes records after r begun =
    whole_capture lines bytes r.pieces records after
    (pieces_at new_context (bytes ++ []) bytes ([] ++ []) [] r.pieces after.context
    (append-nil bytes) refl (r.are [])) r.timed begun
