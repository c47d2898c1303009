-- Bytes begin with one piece, or there is one reason why they don't.
use Rattle.std.proofs.Common.{◌≡◌, ℕ, ◌≤◌, List, [], ◌∷◌, ◌++◌, length, sym, ap, subst, ◌∙◌, arith, inl, inr, length-append}
use Rattle.std.specs.Prelude.{◌⊎◌, Option, Some}
use Rattle.std.proofs.lemmas.Option.{none-some}
use Rattle.packet_capture.specs.declared.fields.ByteOrder.{ByteOrder}
use Rattle.packet_capture.specs.declared.fields.ByteOrder.TheVariants.{Big}
use Rattle.packet_capture.specs.declared.fault.CaptureFault.{CaptureFault}
use Rattle.packet_capture.specs.declared.interface.Interface.{Interface}
use Rattle.packet_capture.specs.declared.reader.Format.{Format}
use Rattle.packet_capture.specs.declared.reader.Format.TheVariants.{Start, InSavefile, InSection}
use Rattle.packet_capture.specs.declared.savefile.Savefile.{Savefile}
use Rattle.packet_capture.specs.declared.stop.NoPiece.{NoPiece}
use Rattle.packet_capture.specs.declared.stop.NoPiece.TheVariants.{Bad}
use Rattle.packet_capture.specs.Frames.{FrameContent}
use Rattle.packet_capture.specs.Contents.{BlockEvent, interface_added, BlockSays, HasBlockFault}
use Rattle.packet_capture.specs.DropReports.{report_of}
use Rattle.packet_capture.specs.Captures.{Context, PieceContent, IsHeaderPiece, IsRecordPiece, frame_in_event, interfaces_after, IsBlockPiece, IsPieceIn, IsPiece, IsOneTooMany, StopsInSection, StopsAtStart, StopsIn, StopsReading}
use Rattle.packet_capture.proofs.OneRecord.{same_savefile, no_header_stop, same_header_stop, same_record, no_record_stop, same_record_stop}
use Rattle.packet_capture.proofs.OneBlock.{same_order, same_block, same_block_stop, no_block_stop, same_event, same_block_fault, no_fault_with_event, block_len}

-- pieces and contexts by their parts
piece_is : (p q : PieceContent) → p.len ≡ q.len → p.frame ≡ q.frame → p.dropped ≡ q.dropped → p ≡ q
piece_is p q a b c = λ i. record { len = a i; frame = b i; dropped = c i }

same_header : (bytes : List ℕ) (p q : PieceContent) (a b : Context) → IsHeaderPiece bytes p a
    → IsHeaderPiece bytes q b → (p ≡ q) × (a ≡ b)
same_header bytes p q a b h k =
    let s : h.savefile ≡ k.savefile = same_savefile bytes h.savefile k.savefile h.begins k.begins in
    let C : Savefile → Context = λ x. record { format = InSavefile x; interfaces = [] } in (
      piece_is p q (h.len ∙ sym k.len) (h.frame ∙ sym k.frame) (h.dropped ∙ sym k.dropped),
      h.after_is ∙ ap C s ∙ sym k.after_is,
    )

same_record_piece : (s : Savefile) (before : Context) (bytes : List ℕ) (p q : PieceContent)
    (a b : Context) → IsRecordPiece s before bytes p a → IsRecordPiece s before bytes q b → (p ≡ q)
    × (a ≡ b)
same_record_piece s before bytes p q a b h k =
    let f : h.frame ≡ k.frame = same_record s bytes h.frame k.frame h.is_record k.is_record in
    let S : FrameContent → Option FrameContent = λ x. Some x in (
      piece_is p q (h.len ∙ sym k.len) (h.frame_is ∙ ap S f ∙ sym k.frame_is)
          (h.dropped ∙ sym k.dropped),
      h.after_is ∙ sym k.after_is,
    )

-- a block's meaning in one order is that in the other, where they are one
says_at : (is : List Interface) (o p : ByteOrder) (x y : List ℕ) (s : BlockEvent) → o ≡ p → x ≡ y
    → BlockSays is o x s → BlockSays is p y s
says_at is o p x y s e d h =
    let P : ByteOrder → Type 0 = λ r. BlockSays is r x s in
    let Q : List ℕ → Type 0 = λ z. BlockSays is p z s in
    subst Q d (subst P e h)

fault_at : (is : List Interface) (o p : ByteOrder) (x y : List ℕ) (f : CaptureFault) → o ≡ p → x ≡ y
    → HasBlockFault is o x f → HasBlockFault is p y f
fault_at is o p x y f e d h =
    let P : ByteOrder → Type 0 = λ r. HasBlockFault is r x f in
    let Q : List ℕ → Type 0 = λ z. HasBlockFault is p z f in
    subst Q d (subst P e h)

same_block_piece : (section : ByteOrder) (before : Context) (bytes : List ℕ) (p q : PieceContent)
    (a b : Context) → IsBlockPiece section before bytes p a → IsBlockPiece section before bytes q b
    → (p ≡ q) × (a ≡ b)
same_block_piece section before bytes p q a b h k =
    let order : h.order ≡ k.order = same_order section bytes h.order k.order
    h.is_block.order_is k.is_block.order_is in
    let block : h.block ≡ k.block = same_block section bytes h.order k.order h.block k.block
    h.is_block k.is_block in
    let event : h.event ≡ k.event = same_event before.interfaces k.order k.block h.event k.event
    (says_at before.interfaces h.order k.order h.block k.block h.event order block h.says)
    k.says in
    let C : ByteOrder → BlockEvent → Context = λ r s. record {
      format = InSection r;
      interfaces =
          interfaces_after before.interfaces s;
    } in (
      piece_is p q (h.len ∙ ap (λ (x : List ℕ). length x) block ∙ sym k.len) (h.frame
          ∙ ap frame_in_event event ∙ sym k.frame) (h.dropped
          ∙ ap (λ (r : ByteOrder). report_of r h.block) order
          ∙ ap (λ (x : List ℕ). report_of k.order x) block ∙ sym k.dropped),
      h.after_is ∙ ap (λ (r : ByteOrder). C r h.event) order
          ∙ ap (λ (s : BlockEvent). C k.order s) event ∙ sym k.after_is,
    )

same_piece_in : (format : Format) (before : Context) (bytes : List ℕ) (p q : PieceContent)
    (a b : Context) → IsPieceIn format before bytes p a → IsPieceIn format before bytes q b
    → (p ≡ q) × (a ≡ b)
same_piece_in Start before bytes p q a b (inl h) (inl k) = same_header bytes p q a b h k
same_piece_in Start before bytes p q a b (inl h) (inr k) =
    absurd (none-some h.begins.magic (sym k.no_savefile ∙ h.begins.magic_is))
same_piece_in Start before bytes p q a b (inr h) (inl k) =
    absurd (none-some k.begins.magic (sym h.no_savefile ∙ k.begins.magic_is))
same_piece_in Start before bytes p q a b (inr h) (inr k) = same_block_piece Big before bytes
    p q a b h.block k.block
same_piece_in (InSavefile s) before bytes p q a b h k = same_record_piece s before bytes p q a b h k
same_piece_in (InSection order) before bytes p q a b h k = same_block_piece order
    before bytes p q a b h k

pub same_piece : (before a b : Context) (bytes : List ℕ) (p q : PieceContent)
    → IsPiece before bytes p a → IsPiece before bytes q b → (p ≡ q) × (a ≡ b)
same_piece before a b bytes p q h k = same_piece_in before.format before bytes p q a b h k

-- a fault of a block's content
abbrev content_fault : List Interface → ByteOrder → List ℕ → CaptureFault → Type 0
content_fault is order block fault =
    HasBlockFault is order block fault
    ⊎ ((event : BlockEvent) × BlockSays is order block event × IsOneTooMany is event fault)

same_content_fault : (is : List Interface) (order : ByteOrder) (block : List ℕ) (f g : CaptureFault)
    → 12 ≤ length block → content_fault is order block f → content_fault is order block g → f ≡ g
same_content_fault is order block f g there (inl h) (inl k) =
    same_block_fault is order block f g h k
same_content_fault is order block f g there (inl h) (inr k) =
    absurd (no_fault_with_event is order block k.0 f there k.1 h)
same_content_fault is order block f g there (inr h) (inl k) =
    absurd (no_fault_with_event is order block h.0 g there h.1 k)
same_content_fault is order block f g there (inr h) (inr k) = h.2.fault_is ∙ sym k.2.fault_is

-- one more interface than there may be
too_many : (is : List Interface) (s : BlockEvent) (i : Interface) → s ≡ interface_added i
    → length (interfaces_after is s) ≤ 256 → 256 ≤ length is → ⊥
too_many is s i e few many =
    let n : length (interfaces_after is s) ≡ length (is ++ i ∷ []) =
    ap (λ (x : BlockEvent). length (interfaces_after is x)) e in
    omega (arith, length-append is (i ∷ []))

no_content_fault : (is : List Interface) (order : ByteOrder) (block : List ℕ) (s : BlockEvent)
    (f : CaptureFault) → 12 ≤ length block → BlockSays is order block s
    → length (interfaces_after is s) ≤ 256 → content_fault is order block f → ⊥
no_content_fault is order block s f there says few (inl k) = no_fault_with_event is
    order block s f there says k
no_content_fault is order block s f there says few (inr k) = too_many is s k.2.interface
    (same_event is order block s k.0 says k.1 ∙ k.2.event_is) few k.2.full

content_fault_at : (is : List Interface) (o p : ByteOrder) (x y : List ℕ) (f : CaptureFault) → o ≡ p
    → x ≡ y → content_fault is o x f → content_fault is p y f
content_fault_at is o p x y f e d h =
    let P : ByteOrder → Type 0 = λ r. content_fault is r x f in
    let Q : List ℕ → Type 0 = λ z. content_fault is p z f in
    subst Q d (subst P e h)

same_section_stop : (section : ByteOrder) (before : Context) (bytes : List ℕ) (s t : NoPiece)
    → StopsInSection section before bytes s → StopsInSection section before bytes t → s ≡ t
same_section_stop section before bytes s t (inl h) (inl k) = same_block_stop section bytes s t h k
same_section_stop section before bytes s t (inl h) (inr k) =
    absurd (no_block_stop section bytes k.order k.block s k.is_block h)
same_section_stop section before bytes s t (inr h) (inl k) =
    absurd (no_block_stop section bytes h.order h.block t h.is_block k)
same_section_stop section before bytes s t (inr h) (inr k) =
    let order : h.order ≡ k.order = same_order section bytes h.order k.order
    h.is_block.order_is k.is_block.order_is in
    let block : h.block ≡ k.block = same_block section bytes h.order k.order h.block k.block
    h.is_block k.is_block in
    let B : CaptureFault → NoPiece = λ f. Bad f in
    let there = block_len section bytes k.order k.block k.is_block in
    let fault : h.fault ≡ k.fault = same_content_fault before.interfaces k.order k.block h.fault
    k.fault there (content_fault_at before.interfaces h.order k.order h.block k.block h.fault
    order block h.why) k.why in
    h.stop_is ∙ ap B fault ∙ sym k.stop_is

same_start_stop : (before : Context) (bytes : List ℕ) (s t : NoPiece) → StopsAtStart before bytes s
    → StopsAtStart before bytes t → s ≡ t
same_start_stop before bytes s t (inl h) (inl k) = h.1 ∙ sym k.1
same_start_stop before bytes s t (inl h) (inr (inl k)) = let a = h.0 in let b = k.0
    in absurd (omega arith)
same_start_stop before bytes s t (inl h) (inr (inr (inl k))) = let a = h.0 in let b = k.0
    in absurd (omega arith)
same_start_stop before bytes s t (inl h) (inr (inr (inr k))) = let a = h.0 in let b = k.0
    in absurd (omega arith)
same_start_stop before bytes s t (inr (inl h)) (inl k) = let a = h.0 in let b = k.0
    in absurd (omega arith)
same_start_stop before bytes s t (inr (inl h)) (inr (inl k)) = h.3 ∙ sym k.3
same_start_stop before bytes s t (inr (inl h)) (inr (inr (inl k))) =
    absurd (none-some k.1.0 (sym h.1 ∙ k.1.1))
same_start_stop before bytes s t (inr (inl h)) (inr (inr (inr k))) = absurd (h.2 k.2)
same_start_stop before bytes s t (inr (inr (inl h))) (inl k) = let a = h.0 in let b = k.0
    in absurd (omega arith)
same_start_stop before bytes s t (inr (inr (inl h))) (inr (inl k)) =
    absurd (none-some h.1.0 (sym k.1 ∙ h.1.1))
same_start_stop before bytes s t (inr (inr (inl h))) (inr (inr (inl k))) =
    same_header_stop bytes s t h.2 k.2
same_start_stop before bytes s t (inr (inr (inl h))) (inr (inr (inr k))) =
    absurd (none-some h.1.0 (sym k.1 ∙ h.1.1))
same_start_stop before bytes s t (inr (inr (inr h))) (inl k) = let a = h.0 in let b = k.0
    in absurd (omega arith)
same_start_stop before bytes s t (inr (inr (inr h))) (inr (inl k)) = absurd (k.2 h.2)
same_start_stop before bytes s t (inr (inr (inr h))) (inr (inr (inl k))) =
    absurd (none-some k.1.0 (sym h.1 ∙ k.1.1))
same_start_stop before bytes s t (inr (inr (inr h))) (inr (inr (inr k))) = same_section_stop Big
    before bytes s t h.3 k.3

same_stop_in : (format : Format) (before : Context) (bytes : List ℕ) (s t : NoPiece)
    → StopsIn format before bytes s → StopsIn format before bytes t → s ≡ t
same_stop_in Start before bytes s t h k = same_start_stop before bytes s t h k
same_stop_in (InSavefile f) before bytes s t h k = same_record_stop f bytes s t h k
same_stop_in (InSection order) before bytes s t h k = same_section_stop order before bytes s t h k

pub same_stop : (before : Context) (bytes : List ℕ) (s t : NoPiece) → StopsReading before bytes s
    → StopsReading before bytes t → s ≡ t
same_stop before bytes s t h k = same_stop_in before.format before bytes s t h k

-- a piece is there, or it stops
no_section_stop : (section : ByteOrder) (before after : Context) (bytes : List ℕ) (p : PieceContent)
    (s : NoPiece) → IsBlockPiece section before bytes p after
    → StopsInSection section before bytes s
    → ⊥
no_section_stop section before after bytes p s h (inl k) = no_block_stop section bytes
    h.order h.block s h.is_block k
no_section_stop section before after bytes p s h (inr k) =
    let order : k.order ≡ h.order = same_order section bytes k.order h.order
    k.is_block.order_is h.is_block.order_is in
    let block : k.block ≡ h.block = same_block section bytes k.order h.order k.block h.block
    k.is_block h.is_block in
    no_content_fault before.interfaces h.order h.block h.event k.fault
    (block_len section bytes h.order h.block h.is_block) h.says h.few
    (content_fault_at before.interfaces k.order h.order k.block h.block
    k.fault order block k.why)

no_stop_in : (format : Format) (before after : Context) (bytes : List ℕ) (p : PieceContent)
    (s : NoPiece) → IsPieceIn format before bytes p after → StopsIn format before bytes s → ⊥
no_stop_in Start before after bytes p s (inl h) (inl k) = let a = h.there in let b = k.0
    in absurd (omega arith)
no_stop_in Start before after bytes p s (inl h) (inr (inl k)) = none-some h.begins.magic
    (sym k.1 ∙ h.begins.magic_is)
no_stop_in Start before after bytes p s (inl h) (inr (inr (inl k))) = no_header_stop bytes
    h.savefile s h.begins k.2
no_stop_in Start before after bytes p s (inl h) (inr (inr (inr k))) = none-some h.begins.magic
    (sym k.1 ∙ h.begins.magic_is)
no_stop_in Start before after bytes p s (inr h) (inl k) = let a = h.there in let b = k.0
    in absurd (omega arith)
no_stop_in Start before after bytes p s (inr h) (inr (inl k)) = k.2 h.section
no_stop_in Start before after bytes p s (inr h) (inr (inr (inl k))) = none-some k.1.0
    (sym h.no_savefile ∙ k.1.1)
no_stop_in Start before after bytes p s (inr h) (inr (inr (inr k))) = no_section_stop Big before
    after bytes p s h.block k.3
no_stop_in (InSavefile f) before after bytes p s h k = no_record_stop f bytes
    h.frame s h.is_record k
no_stop_in (InSection order) before after bytes p s h k = no_section_stop order
    before after bytes p s h k

pub no_stop : (before after : Context) (bytes : List ℕ) (p : PieceContent) (s : NoPiece)
    → IsPiece before bytes p after → StopsReading before bytes s → ⊥
no_stop before after bytes p s h k = no_stop_in before.format before after bytes p s h k
