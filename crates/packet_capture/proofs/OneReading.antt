-- A capture has one reading.
use Rattle.std.proofs.Common.{◌≡◌, ℕ, List, [], ◌∷◌, drop, refl, sym, ap, subst, ◌∙◌, arith, inl, inr}
use Rattle.packet_capture.specs.declared.reader.Format.{Format}
use Rattle.packet_capture.specs.declared.reader.Format.TheVariants.{Start, InSavefile, InSection}
use Rattle.packet_capture.specs.Frames.{FrameContent}
use Rattle.packet_capture.specs.Captures.{Context, new_context, PieceContent, IsPieceIn, IsPiece, ArePieces, frames_of, IsCapture}
use Rattle.packet_capture.proofs.OnePiece.{same_piece}

-- no piece begins where nothing does
none_in : (format : Format) (before after : Context) (p : PieceContent)
    → IsPieceIn format before [] p after → ⊥
none_in Start before after p (inl h) = let a = h.there in omega arith
none_in Start before after p (inr h) = let a = h.there in omega arith
none_in (InSavefile s) before after p h = let a = h.is_record.there in omega arith
none_in (InSection order) before after p h = let a = h.is_block.there in omega arith

none_at : (before after : Context) (bytes : List ℕ) (p : PieceContent) → [] ≡ bytes
    → IsPiece before bytes p after → ⊥
none_at before after bytes p e h =
    let P : List ℕ → Type 0 = λ x. IsPiece before x p after in
    none_in before.format before after p (subst P (sym e) h)

pieces_at : (a b : Context) (x y : List ℕ) (ps : List PieceContent) (c : Context) (r : List ℕ)
    → a ≡ b → x ≡ y → ArePieces a x ps c r → ArePieces b y ps c r
pieces_at a b x y ps c r e d h =
    let P : Context → Type 0 = λ z. ArePieces z x ps c r in
    let Q : List ℕ → Type 0 = λ z. ArePieces b z ps c r in
    subst Q d (subst P e h)

same_pieces : (before a b : Context) (bytes : List ℕ) (xs ys : List PieceContent)
    → ArePieces before bytes xs a [] → ArePieces before bytes ys b [] → xs ≡ ys
same_pieces before a b bytes [] [] h k = refl
same_pieces before a b bytes [] (y ∷ ys) h k = absurd (none_at before k.0 bytes y h.1 k.1)
same_pieces before a b bytes (x ∷ xs) [] h k = absurd (none_at before h.0 bytes x k.1 h.1)
same_pieces before a b bytes (x ∷ xs) (y ∷ ys) h k =
    let one = same_piece before h.0 k.0 bytes x y h.1 k.1 in
    let rest : drop x.len bytes ≡ drop y.len bytes = ap (λ (p : PieceContent). drop p.len bytes)
    one.0 in
    let others : xs ≡ ys = same_pieces k.0 a b (drop y.len bytes) xs ys
    (pieces_at h.0 k.0 (drop x.len bytes) (drop y.len bytes) xs a [] one.1 rest h.2) k.2 in
    ap (λ (p : PieceContent). p ∷ xs) one.0 ∙ ap (λ (ps : List PieceContent). y ∷ ps) others

pub same_frames : (bytes : List ℕ) (xs ys : List FrameContent) → IsCapture bytes xs
    → IsCapture bytes ys → xs ≡ ys
same_frames bytes xs ys h k =
    h.frames_are ∙ ap frames_of (same_pieces new_context h.after k.after bytes (h.first ∷ h.others)
    (k.first ∷ k.others) h.are k.are) ∙ sym k.frames_are
