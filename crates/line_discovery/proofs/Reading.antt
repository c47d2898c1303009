-- One piece of a packet capture: what it counts, and the step that it is.
use Rattle.std.proofs.Common.{◌≡◌, ℕ, List, [], ◌∷◌, ◌++◌, Option, Some, None, drop, refl, sym, ap, subst, ◌∙◌, append-nil, arith}
use Rattle.std.proofs.lemmas.List.{drop-append-le}
use Rattle.std.specs.List.{AllZip}
use Rattle.packet_capture.specs.declared.stop.NoPiece.{NoPiece}
use Rattle.packet_capture.specs.declared.stop.NoPiece.TheVariants as stops
use Rattle.packet_capture.specs.Captures.{Context, PieceContent, IsPiece, StopsReading, frames_of, list_of}
use Rattle.packet_capture.specs.Frames.{FrameContent}
use Rattle.capture_records.specs.declared.record_format.Step.{Step}
use Rattle.capture_records.specs.declared.record_format.Step.TheVariants.{Came, Passed, Wants, Bad}
use Rattle.capture_records.specs.Formats.{TakesPiece, StepsTo}
use Rattle.line_captures.specs.declared.bad_piece.BadPiece.{BadPiece}
use Rattle.line_captures.specs.declared.frame_counts.FrameCounts.{FrameCounts}
use Rattle.line_captures.specs.declared.progress.Progress.{Progress}
use Rattle.line_captures.specs.Counts.{IsFate, counts_after, piece_after, timed_after}
use Rattle.line_captures.specs.CountLaws.{counts_frame, counts_silent}
use Rattle.line_discovery.specs.declared.counts.SurveyCounts.{SurveyCounts}
use Rattle.line_discovery.specs.declared.frame_class.FrameClass.{FrameClass}
use Rattle.line_discovery.specs.declared.frame_class.FrameClass.TheVariants.{Packet, Other, NoDatagram}
use Rattle.line_discovery.specs.declared.endpoint_packet.EndpointPacket.{EndpointPacket}
use Rattle.line_discovery.specs.declared.survey.EndpointSurvey.{EndpointSurvey}
use Rattle.line_discovery.specs.Sightings.{HasFate, frame_fate, others_in, packets_in}
use Rattle.line_discovery.specs.Surveys.{CountsFate, CountsSightings, StopsSurvey, ReadsSurvey, is_bad_piece, wants_piece}
use Rattle.packet_capture.specs.laws.Fronts.{piece_len, few_unread}

-- ---- counts

is_fate : (f : FrameContent) (fate : FrameClass) → HasFate f fate → IsFate [] f (frame_fate fate)
is_fate f (Packet s) h = (h.0, h.1, λ place line e takes. absurd cc)
is_fate f (Other s) h = (h.0, h.1, λ place line e takes. absurd cc)
is_fate f (NoDatagram fault) h = h

-- what one piece counts, with a frame
pub counts_sighting : (before mid after : SurveyCounts) (pieced : Progress) (p : PieceContent)
    (f : FrameContent) (fate : FrameClass) → pieced ≡ piece_after before.progress p
    → mid ≡ record before { progress = timed_after pieced f.time }
    → CountsFate fate mid after → HasFate f fate → p.frame ≡ Some f
    → CountsSightings before (p ∷ []) after
counts_sighting before mid after pieced p f fate piece timed counted is framed =
    let frames : frames_of (p ∷ []) ≡ f ∷ [] =
    ap (λ (o : Option FrameContent). list_of o ++ []) framed in
    let Z : List FrameContent → Type 0 = λ fs. AllZip HasFate fs (fate ∷ []) in
    let time : mid.progress ≡ timed_after pieced f.time =
    ap (λ (x : SurveyCounts). x.progress) timed in
    let counts : after.progress.counts
    ≡ counts_after mid.progress.counts (frame_fate fate ∷ []) 0 =
    ap (λ (x : Progress). x.counts) counted.progress in
    let last : after.progress ≡ record mid.progress { counts = after.progress.counts } =
    counted.progress
    ∙ ap (λ (c : FrameCounts). record mid.progress { counts = c }) (sym counts) in
    record {
      fates = fate ∷ [];
      are = subst Z (sym frames) (is, tt);
      progress = counts_frame [] before.progress pieced mid.progress after.progress p f piece time
          last
          (record { fate = frame_fate fate; is = is_fate f fate is; after_is = counts }) framed;
      lines = counted.lines
          ∙ ap (λ (x : SurveyCounts). x.lines ++ packets_in fate) timed
          ∙ ap (λ (l : List EndpointPacket). before.lines ++ l) (sym (append-nil (packets_in
          fate)));
      others = counted.others
          ∙ ap (λ (x : SurveyCounts). x.others ++ others_in fate) timed
          ∙ ap (λ (l : List EndpointPacket). before.others ++ l) (sym (append-nil (others_in
          fate)));
    }

-- and without one
pub sights_none : (before after : SurveyCounts) (p : PieceContent)
    → after ≡ record before { progress = piece_after before.progress p } → p.frame ≡ None
    → CountsSightings before (p ∷ []) after
sights_none before after p piece unframed =
    let frames : frames_of (p ∷ []) ≡ [] =
    ap (λ (o : Option FrameContent). list_of o ++ []) unframed in
    let Z : List FrameContent → Type 0 = λ fs. AllZip HasFate fs [] in
    record {
      fates = [];
      are = subst Z (sym frames) tt;
      progress = counts_silent [] before.progress after.progress p
          (ap (λ (x : SurveyCounts). x.progress) piece) unframed;
      lines = ap (λ (x : SurveyCounts). x.lines) piece ∙ sym (append-nil before.lines);
      others = ap (λ (x : SurveyCounts). x.others) piece ∙ sym (append-nil before.others);
    }

-- ---- steps

abbrev Lasts : Type 0
Lasts = (before after : Context) (bytes more : List ℕ) (p : PieceContent)
    → IsPiece before bytes p after → IsPiece before (bytes ++ more) p after

pub piece_read : Lasts → (s t : EndpointSurvey) (bytes : List ℕ) (p : PieceContent)
    → IsPiece s.capture bytes p t.capture → CountsSightings s.counts (p ∷ []) t.counts
    → TakesPiece ReadsSurvey s bytes [] p.len t
piece_read law s t bytes p is counts =
    let len = piece_len s.capture bytes p t.capture is in
    let left : (more : List ℕ) → drop p.len bytes ++ more ≡ drop p.len (bytes ++ more) =
    λ more. sym (drop-append-le p.len bytes more len.1) in
    record {
      some = len.0;
      within = len.1;
      read = record {
        pieces = p ∷ [];
        are = λ more. (t.capture, law s.capture t.capture bytes more p is, (refl, left more));
        none = refl;
        counts = counts;
      };
    }

pub stop_read : (s t : EndpointSurvey) (bytes : List ℕ) (stop : NoPiece) (step : Step BadPiece)
    → StopsReading s.capture bytes stop → t ≡ s → StopsSurvey stop bytes step
    → StepsTo ReadsSurvey wants_piece is_bad_piece s bytes step t
stop_read s t bytes (stops.Wants n) Wants why same k = let few = few_unread s.capture bytes n why
    in ((n, why), omega (arith, few), same)
stop_read s t bytes (stops.Bad fault) (Bad bad) why same k = ((rw k.0 why, k.1), same)
stop_read s t bytes (stops.Wants n) (Came len time r) why same k = absurd k
stop_read s t bytes (stops.Wants n) (Passed len) why same k = absurd k
stop_read s t bytes (stops.Wants n) (Bad bad) why same k = absurd k
stop_read s t bytes (stops.Bad fault) (Came len time r) why same k = absurd k
stop_read s t bytes (stops.Bad fault) (Passed len) why same k = absurd k
stop_read s t bytes (stops.Bad fault) Wants why same k = absurd k
