-- Laws of surveys as a format.
use Rattle.std.proofs.Common.{◌≡◌, ℕ, List, [], ◌∷◌, ◌++◌, drop, append_assoc, append-nil, refl, sym, ap, subst, ◌∙◌}
use Rattle.std.specs.Prelude.{flat_map}
use Rattle.std.specs.List.{AllZip}
use Rattle.std.proofs.lemmas.Grind.{flat_map-append}
use Rattle.feed_types.specs.ListLaws.{zip_both}
use Rattle.packet_capture.specs.Captures.{Context, PieceContent, ArePieces, frames_in, frames_of}
use Rattle.packet_capture.specs.Frames.{FrameContent}
use Rattle.capture_records.specs.Formats.{TimedRecord}
use Rattle.line_captures.specs.CountLaws.{counts_none as none_counted, counts_then as then_counted}
use Rattle.line_discovery.specs.declared.counts.SurveyCounts.{SurveyCounts}
use Rattle.line_discovery.specs.declared.survey.EndpointSurvey.{EndpointSurvey}
use Rattle.line_discovery.specs.Sightings.{HasFate, others_in, packets_in}
use Rattle.line_discovery.specs.Surveys.{CountsSightings, ReadsSurvey}

-- the same pieces, of what is the same
pieces_at : (a : Context) (x y r s : List ℕ) (ps : List PieceContent) (c : Context)
    → x ≡ y → r ≡ s → ArePieces a x ps c r → ArePieces a y ps c s
pieces_at a x y r s ps c d e h =
    subst (λ (z : List ℕ). ArePieces a z ps c s) d
    (subst (λ (z : List ℕ). ArePieces a x ps c z) e h)

-- pieces, and then more of what was left
pieces_append : (a b c : Context) (bytes mid rest : List ℕ) (ps qs : List PieceContent)
    → ArePieces a bytes ps b mid → ArePieces b mid qs c rest → ArePieces a bytes (ps ++ qs) c rest
pieces_append a b c bytes mid rest [] qs h k =
    pieces_at a mid bytes rest rest qs c h.1 refl
    (subst (λ (z : Context). ArePieces z mid qs c rest) h.0 k)
pieces_append a b c bytes mid rest (p ∷ ps) qs h k =
    (h.0, h.1, pieces_append h.0 b c (drop p.len bytes) mid rest ps qs h.2 k)

-- what was added, and then more
added_both : {A B : Type 0} (f : A → List B) (a b c : List B) (xs ys : List A)
    → b ≡ a ++ flat_map f xs → c ≡ b ++ flat_map f ys → c ≡ a ++ flat_map f (xs ++ ys)
added_both {B = B} f a b c xs ys e d =
    d ∙ ap (λ (l : List B). l ++ flat_map f ys) e
    ∙ append_assoc a (flat_map f xs) (flat_map f ys)
    ∙ ap (λ (l : List B). a ++ l) (sym (flat_map-append f xs ys))

counts_none : (counts : SurveyCounts) → CountsSightings counts [] counts
counts_none counts = record {
  fates = [];
  are = tt;
  progress = none_counted [] counts.progress;
  lines = sym (append-nil counts.lines);
  others = sym (append-nil counts.others);
}

counts_then : (a b c : SurveyCounts) (ps qs : List PieceContent) → CountsSightings a ps b
    → CountsSightings b qs c → CountsSightings a (ps ++ qs) c
counts_then a b c ps qs x y =
    let Z : List FrameContent → Type 0 = λ fs. AllZip HasFate fs (x.fates ++ y.fates) in
    record {
      fates = x.fates ++ y.fates;
      are = subst Z (sym (flat_map-append frames_in ps qs))
          (zip_both HasFate (frames_of ps) (frames_of qs) x.fates y.fates x.are y.are);
      progress = then_counted [] a.progress b.progress c.progress ps qs x.progress y.progress;
      lines = added_both packets_in a.lines b.lines c.lines x.fates y.fates x.lines y.lines;
      others = added_both others_in a.others b.others c.others x.fates y.fates x.others y.others;
    }

-- no piece
pub survey_none : (s : EndpointSurvey) (bytes : List ℕ) → ReadsSurvey s bytes [] s bytes
survey_none s bytes = record {
  pieces = [];
  are = λ more. (refl, refl);
  none = refl;
  counts = counts_none s.counts;
}

-- pieces after pieces
pub survey_more : (s t u : EndpointSurvey) (xs ys zs : List ℕ) (rs qs : List TimedRecord)
    → ReadsSurvey s xs rs t ys → ReadsSurvey t ys qs u zs → ReadsSurvey s xs (rs ++ qs) u zs
survey_more s t u xs ys zs rs qs a b = record {
  pieces = a.pieces ++ b.pieces;
  are = λ more. pieces_append s.capture t.capture u.capture (xs ++ more) (ys ++ more) (zs ++ more)
      a.pieces b.pieces (a.are more) (b.are more);
  none = ap (λ (l : List TimedRecord). l ++ qs) a.none ∙ b.none;
  counts = counts_then s.counts t.counts u.counts a.pieces b.pieces a.counts b.counts;
}

-- whatever follows
pub survey_longer : (s t : EndpointSurvey) (xs ys more : List ℕ) (rs : List TimedRecord)
    → ReadsSurvey s xs rs t ys → ReadsSurvey s (xs ++ more) rs t (ys ++ more)
survey_longer s t xs ys more rs a = record {
  pieces = a.pieces;
  are = λ others. pieces_at s.capture (xs ++ (more ++ others)) ((xs ++ more) ++ others)
      (ys ++ (more ++ others)) ((ys ++ more) ++ others) a.pieces t.capture
      (sym (append_assoc xs more others)) (sym (append_assoc ys more others))
      (a.are (more ++ others));
  none = a.none;
  counts = a.counts;
}

-- no record is of a venue
pub survey_venues : (s t : EndpointSurvey) (xs ys : List ℕ) (rs : List TimedRecord)
    → ReadsSurvey s xs rs t ys → ◌≡◌ {A = ℕ} 0 0
survey_venues s t xs ys rs a = refl
