-- A block has one reading.
use Rattle.std.proofs.Common.{◌≡◌, ℕ, ◌+◌, ◌<◌, ◌≤◌, List, [], ◌∷◌, length, take, refl, sym, ap, subst, ◌∙◌, arith, inl, inr}
use Rattle.std.specs.Prelude.{Some, slice_get}
use Rattle.std.proofs.lemmas.Option.{same_Some, none-some}
use Rattle.packet_capture.specs.declared.fields.ByteOrder.{ByteOrder}
use Rattle.packet_capture.specs.declared.stop.NoPiece.{NoPiece}
use Rattle.packet_capture.specs.declared.interface.Interface.{Interface}
use Rattle.packet_capture.specs.declared.content.BlockKind.{BlockKind}
use Rattle.packet_capture.specs.declared.content.BlockKind.TheVariants.{SectionHeader, Description, Enhanced, Old, Simple, Unread}
use Rattle.packet_capture.specs.declared.fault.CaptureFault.{CaptureFault}
use Rattle.packet_capture.specs.declared.fault.CaptureFault.TheVariants.{UnknownVersion, ShortBlock, UnknownInterface, FramePastBlock, OptionPastBlock}
use Rattle.std.proofs.lemmas.List.{length-take}
use Rattle.packet_capture.specs.Fields.{u32_in}
use Rattle.packet_capture.specs.Frames.{FrameContent}
use Rattle.packet_capture.specs.Interfaces.{OptionField, IsAtFront, after_option, AreOptions, CutAfter, with_options, bare_interface, options_in, Describes}
use Rattle.packet_capture.specs.Blocks.{order_at, IsBlock}
use Rattle.packet_capture.specs.Contents.{fixed_len, block_kind, IsPacketKind, IsSectionVersion, interface_in, captured_in, frame_in, HasFrame, BlockEvent, section_begins, interface_added, frame_came, passed_over, BlockSays, HasUnknownInterface, HasCutFrame, HasBlockFault}
use Rattle.packet_capture.specs.Stops.{StopsInLen, StopsInBlock}

pub same_order : (section : ByteOrder) (bytes : List ℕ) (o p : ByteOrder)
    → order_at section bytes ≡ Some o → order_at section bytes ≡ Some p → o ≡ p
same_order section bytes o p a b = same_Some o p (sym a ∙ b)

pub same_block : (section : ByteOrder) (bytes : List ℕ) (o p : ByteOrder) (x y : List ℕ)
    → IsBlock section bytes o x → IsBlock section bytes p y → x ≡ y
same_block section bytes o p x y a b =
    a.block_is ∙ ap (λ (r : ByteOrder). take (u32_in r bytes 4) bytes) (same_order section bytes o p
    a.order_is b.order_is) ∙ sym b.block_is

same_len_stop : (order : ByteOrder) (bytes : List ℕ) (s t : NoPiece) → StopsInLen order bytes s
    → StopsInLen order bytes t → s ≡ t
same_len_stop order bytes s t (inl h) (inl k) = h.1 ∙ sym k.1
same_len_stop order bytes s t (inl h) (inr (inl k)) = absurd (h.0 k.0)
same_len_stop order bytes s t (inl h) (inr (inr (inl k))) = absurd (h.0 k.0)
same_len_stop order bytes s t (inl h) (inr (inr (inr k))) = absurd (h.0 k.0)
same_len_stop order bytes s t (inr (inl h)) (inl k) = absurd (k.0 h.0)
same_len_stop order bytes s t (inr (inl h)) (inr (inl k)) = h.2 ∙ sym k.2
same_len_stop order bytes s t (inr (inl h)) (inr (inr (inl k))) = let a = h.1 in let b = k.1
    in absurd (omega arith)
same_len_stop order bytes s t (inr (inl h)) (inr (inr (inr k))) = let a = h.1 in let b = k.1
    in absurd (omega arith)
same_len_stop order bytes s t (inr (inr (inl h))) (inl k) = absurd (k.0 h.0)
same_len_stop order bytes s t (inr (inr (inl h))) (inr (inl k)) = let a = h.1 in let b = k.1
    in absurd (omega arith)
same_len_stop order bytes s t (inr (inr (inl h))) (inr (inr (inl k))) = h.3 ∙ sym k.3
same_len_stop order bytes s t (inr (inr (inl h))) (inr (inr (inr k))) = let a = h.2 in let b = k.2
    in absurd (omega arith)
same_len_stop order bytes s t (inr (inr (inr h))) (inl k) = absurd (k.0 h.0)
same_len_stop order bytes s t (inr (inr (inr h))) (inr (inl k)) = let a = h.1 in let b = k.1
    in absurd (omega arith)
same_len_stop order bytes s t (inr (inr (inr h))) (inr (inr (inl k))) = let a = h.2 in let b = k.2
    in absurd (omega arith)
same_len_stop order bytes s t (inr (inr (inr h))) (inr (inr (inr k))) = h.4 ∙ sym k.4

no_len_stop : (section : ByteOrder) (bytes : List ℕ) (o : ByteOrder) (x : List ℕ) (s : NoPiece)
    → IsBlock section bytes o x → StopsInLen o bytes s → ⊥
no_len_stop section bytes o x s b (inl k) = k.0 b.counted
no_len_stop section bytes o x s b (inr (inl k)) = let p = b.short in let q = k.1
    in absurd (omega arith)
no_len_stop section bytes o x s b (inr (inr (inl k))) = let p = b.whole in let q = k.2
    in absurd (omega arith)
no_len_stop section bytes o x s b (inr (inr (inr k))) = k.3 b.again

stop_at : (bytes : List ℕ) (s : NoPiece) (o p : ByteOrder) → o ≡ p
    → StopsInLen o bytes s → StopsInLen p bytes s
stop_at bytes s o p e h = let P : ByteOrder → Type 0 = λ r. StopsInLen r bytes s in subst P e h

pub same_block_stop : (section : ByteOrder) (bytes : List ℕ) (s t : NoPiece)
    → StopsInBlock section bytes s → StopsInBlock section bytes t → s ≡ t
same_block_stop section bytes s t (inl h) (inl k) = h.1 ∙ sym k.1
same_block_stop section bytes s t (inl h) (inr (inl k)) = let a = h.0 in let b = k.0
    in absurd (omega arith)
same_block_stop section bytes s t (inl h) (inr (inr k)) = let a = h.0 in let b = k.0
    in absurd (omega arith)
same_block_stop section bytes s t (inr (inl h)) (inl k) = let a = h.0 in let b = k.0
    in absurd (omega arith)
same_block_stop section bytes s t (inr (inl h)) (inr (inl k)) = h.2 ∙ sym k.2
same_block_stop section bytes s t (inr (inl h)) (inr (inr k)) =
    absurd (none-some k.1.0 (sym h.1 ∙ k.1.1))
same_block_stop section bytes s t (inr (inr h)) (inl k) = let a = h.0 in let b = k.0
    in absurd (omega arith)
same_block_stop section bytes s t (inr (inr h)) (inr (inl k)) =
    absurd (none-some h.1.0 (sym k.1 ∙ h.1.1))
same_block_stop section bytes s t (inr (inr h)) (inr (inr k)) =
    same_len_stop k.1.0 bytes s t (stop_at bytes s h.1.0 k.1.0 (same_order section bytes h.1.0 k.1.0
    h.1.1 k.1.1) h.1.2) k.1.2

pub no_block_stop : (section : ByteOrder) (bytes : List ℕ) (o : ByteOrder) (x : List ℕ) (s :
    NoPiece)
    → IsBlock section bytes o x → StopsInBlock section bytes s → ⊥
no_block_stop section bytes o x s b (inl k) = let p = b.there in let q = k.0 in absurd (omega arith)
no_block_stop section bytes o x s b (inr (inl k)) = none-some o (sym k.1 ∙ b.order_is)
no_block_stop section bytes o x s b (inr (inr k)) =
    no_len_stop section bytes o x s b (stop_at bytes s k.1.0 o (same_order section bytes k.1.0 o
    k.1.1 b.order_is) k.1.2)

-- options
same_setting : (order : ByteOrder) (bytes : List ℕ) (a b : OptionField) → IsAtFront order bytes a
    → IsAtFront order bytes b → a ≡ b
same_setting order bytes a b p q =
    let code : a.code ≡ b.code = p.code ∙ sym q.code in
    let value : a.value ≡ b.value = p.value ∙ sym q.value in
    λ i. record { code = code i; value = value i }

same_options : (order : ByteOrder) (bytes : List ℕ) (xs ys : List OptionField)
    → AreOptions order bytes xs → AreOptions order bytes ys → xs ≡ ys
same_options order bytes [] [] h k = refl
same_options order bytes [] (y ∷ ys) h k = let a = h k.0.there in let b = k.0.code
    in let c = k.0.goes_on in absurd (omega arith)
same_options order bytes (x ∷ xs) [] h k = let a = k h.0.there in let b = h.0.code
    in let c = h.0.goes_on in absurd (omega arith)
same_options order bytes (x ∷ xs) (y ∷ ys) h k =
    let first : x ≡ y = same_setting order bytes x y h.0 k.0 in
    let others : xs ≡ ys = same_options order (after_option order bytes) xs ys h.1 k.1 in
    ap (λ (z : OptionField). z ∷ xs) first ∙ ap (λ (zs : List OptionField). y ∷ zs) others

whole_or_cut : (order : ByteOrder) (bytes : List ℕ) (xs ys : List OptionField)
    → AreOptions order bytes xs → CutAfter order bytes ys → ⊥
whole_or_cut order bytes [] [] h k = let a = h k.0 in let b = k.1 in absurd (omega arith)
whole_or_cut order bytes [] (y ∷ ys) h k = let a = h k.0.there in let b = k.0.code
    in let c = k.0.goes_on in absurd (omega arith)
whole_or_cut order bytes (x ∷ xs) [] h k = let a = h.0.within in let b = k.2 in absurd (omega arith)
whole_or_cut order bytes (x ∷ xs) (y ∷ ys) h k = whole_or_cut order (after_option order bytes) xs ys
    h.1 k.1

pub same_interface : (order : ByteOrder) (block : List ℕ) (i j : Interface)
    → Describes order block i → Describes order block j → i ≡ j
same_interface order block i j a b =
    a.1.is ∙ ap (λ (os : List OptionField). with_options order (bare_interface order block) os)
    (same_options order (options_in block) a.1.options b.1.options a.1.are b.1.are) ∙ sym b.1.is

pub same_frame : (interfaces : List Interface) (order : ByteOrder) (block : List ℕ)
    (f g : FrameContent) → HasFrame interfaces order block f → HasFrame interfaces order block g
    → f ≡ g
same_frame interfaces order block f g a b =
    let kind : a.kind ≡ b.kind = a.kind_is ∙ sym b.kind_is in
    let interface : a.interface ≡ b.interface = same_Some a.interface b.interface
    (sym a.interface_is
    ∙ ap (λ (k : BlockKind). slice_get interfaces (interface_in k order block)) kind
    ∙ b.interface_is) in
    a.is ∙ ap (λ (k : BlockKind). frame_in k order a.interface block) kind
    ∙ ap (λ (i : Interface). frame_in b.kind order i block) interface ∙ sym b.is

-- kinds by their places, so that different ones are different numbers
abbrev place : BlockKind → ℕ
place SectionHeader = 0
place Description = 1
place Enhanced = 2
place Old = 3
place Simple = 4
place Unread = 5

-- a packet's block is of no other kind
not_packet : (k j : BlockKind) → k ≡ j → (IsPacketKind j → ⊥) → IsPacketKind k → ⊥
not_packet k j e never is = let P : BlockKind → Type 0 = λ x. IsPacketKind x in never (subst P e is)

same_kind : (a b c : BlockKind) → a ≡ b → a ≡ c → b ≡ c
same_kind a b c p q = sym p ∙ q

pub same_event : (interfaces : List Interface) (order : ByteOrder) (block : List ℕ)
    (s t : BlockEvent) → BlockSays interfaces order block s → BlockSays interfaces order block t
    → s ≡ t
same_event interfaces order block section_begins section_begins h k = refl
same_event interfaces order block section_begins (interface_added j) h k =
    let e : SectionHeader ≡ Description = same_kind _ _ _ h.0 k.0 in let n = ap place e
    in absurd (omega arith)
same_event interfaces order block section_begins (frame_came g) h k =
    absurd (not_packet k.kind SectionHeader (k.kind_is ∙ h.0) (λ x. x) k.is_packet)
same_event interfaces order block section_begins passed_over h k = let e : SectionHeader ≡ Unread =
    same_kind _ _ _ h.0 k in let n = ap place e in absurd (omega arith)
same_event interfaces order block (interface_added i) section_begins h k =
    let e : SectionHeader ≡ Description = same_kind _ _ _ k.0 h.0 in let n = ap place e
    in absurd (omega arith)
same_event interfaces order block (interface_added i) (interface_added j) h k = ap interface_added
    (same_interface order block i j h.1 k.1)
same_event interfaces order block (interface_added i) (frame_came g) h k =
    absurd (not_packet k.kind Description (k.kind_is ∙ h.0) (λ x. x) k.is_packet)
same_event interfaces order block (interface_added i) passed_over h k =
    let e : Description ≡ Unread = same_kind _ _ _ h.0 k in let n = ap place e
    in absurd (omega arith)
same_event interfaces order block (frame_came f) section_begins h k =
    absurd (not_packet h.kind SectionHeader (h.kind_is ∙ k.0) (λ x. x) h.is_packet)
same_event interfaces order block (frame_came f) (interface_added j) h k =
    absurd (not_packet h.kind Description (h.kind_is ∙ k.0) (λ x. x) h.is_packet)
same_event interfaces order block (frame_came f) (frame_came g) h k = ap frame_came
    (same_frame interfaces order block f g h k)
same_event interfaces order block (frame_came f) passed_over h k =
    absurd (not_packet h.kind Unread (h.kind_is ∙ k) (λ x. x) h.is_packet)
same_event interfaces order block passed_over section_begins h k = let e : SectionHeader ≡ Unread =
    same_kind _ _ _ k.0 h in let n = ap place e in absurd (omega arith)
same_event interfaces order block passed_over (interface_added j) h k =
    let e : Description ≡ Unread = same_kind _ _ _ k.0 h in let n = ap place e
    in absurd (omega arith)
same_event interfaces order block passed_over (frame_came g) h k =
    absurd (not_packet k.kind Unread (k.kind_is ∙ h) (λ x. x) k.is_packet)
same_event interfaces order block passed_over passed_over h k = refl

-- each reason why a block has no meaning, against every other
short_or : (is : List Interface) (order : ByteOrder) (block : List ℕ) (g : CaptureFault)
    → length block < fixed_len (block_kind order block) → HasBlockFault is order block g
    → g ≡ ShortBlock
short_or is order block g short (inl k) = k.1
short_or is order block g short (inr (inl k)) = let e = ap fixed_len k.0 in let a = k.1
    in absurd (omega arith)
short_or is order block g short (inr (inr (inl k))) = let e = ap fixed_len k.0 in let a = k.1.0
    in absurd (omega arith)
short_or is order block g short (inr (inr (inr (inl k)))) = let e = ap fixed_len k.0.kind_is
    in let a = k.0.there in absurd (omega arith)
short_or is order block g short (inr (inr (inr (inr k)))) = let e = ap fixed_len k.0.kind_is
    in let a = k.0.there in absurd (omega arith)

version_or : (is : List Interface) (order : ByteOrder) (block : List ℕ) (g : CaptureFault)
    → block_kind order block ≡ SectionHeader → 28 ≤ length block → HasBlockFault is order block g
    → g ≡ UnknownVersion
version_or is order block g header there (inl k) = let e = ap fixed_len header in let a = k.0
    in absurd (omega arith)
version_or is order block g header there (inr (inl k)) = k.3
version_or is order block g header there (inr (inr (inl k))) = let n =
    ap place (same_kind _ _ _ header k.0) in absurd (omega arith)
version_or is order block g header there (inr (inr (inr (inl k)))) =
    absurd (not_packet k.0.kind SectionHeader (k.0.kind_is ∙ header) (λ x. x) k.0.is_packet)
version_or is order block g header there (inr (inr (inr (inr k)))) =
    absurd (not_packet k.0.kind SectionHeader (k.0.kind_is ∙ header) (λ x. x) k.0.is_packet)

option_or : (is : List Interface) (order : ByteOrder) (block : List ℕ) (g : CaptureFault)
    → block_kind order block ≡ Description → 20 ≤ length block → HasBlockFault is order block g
    → g ≡ OptionPastBlock
option_or is order block g kind there (inl k) = let e = ap fixed_len kind in let a = k.0
    in absurd (omega arith)
option_or is order block g kind there (inr (inl k)) = let n = ap place (same_kind _ _ _ kind k.0)
    in absurd (omega arith)
option_or is order block g kind there (inr (inr (inl k))) = k.2
option_or is order block g kind there (inr (inr (inr (inl k)))) =
    absurd (not_packet k.0.kind Description (k.0.kind_is ∙ kind) (λ x. x) k.0.is_packet)
option_or is order block g kind there (inr (inr (inr (inr k)))) =
    absurd (not_packet k.0.kind Description (k.0.kind_is ∙ kind) (λ x. x) k.0.is_packet)

-- where the interface is
interface_at : (is : List Interface) (order : ByteOrder) (block : List ℕ) (j k : BlockKind)
    → j ≡ block_kind order block → k ≡ block_kind order block
    → slice_get is (interface_in j order block) ≡ slice_get is (interface_in k order block)
interface_at is order block j k p q =
    ap (λ (x : BlockKind). slice_get is (interface_in x order block)) (p ∙ sym q)

unknown_or : (is : List Interface) (order : ByteOrder) (block : List ℕ) (g : CaptureFault)
    → HasUnknownInterface is order block → HasBlockFault is order block g → g ≡ UnknownInterface
unknown_or is order block g u (inl k) = let e = ap fixed_len u.kind_is in let a = u.there
    in let b = k.0 in absurd (omega arith)
unknown_or is order block g u (inr (inl k)) = absurd (not_packet u.kind SectionHeader (u.kind_is
    ∙ k.0) (λ x. x) u.is_packet)
unknown_or is order block g u (inr (inr (inl k))) = absurd (not_packet u.kind Description (u.kind_is
    ∙ k.0) (λ x. x) u.is_packet)
unknown_or is order block g u (inr (inr (inr (inl k)))) = k.1
unknown_or is order block g u (inr (inr (inr (inr k)))) =
    absurd (none-some k.0.interface (sym u.unknown ∙ interface_at is order block u.kind k.0.kind
    u.kind_is k.0.kind_is ∙ k.0.interface_is))

-- a frame's block has the length that its kind and interface give
len_at : (is : List Interface) (order : ByteOrder) (block : List ℕ) (j k : BlockKind)
    (a b : Interface) → j ≡ block_kind order block → k ≡ block_kind order block
    → slice_get is (interface_in j order block) ≡ Some a
    → slice_get is (interface_in k order block) ≡ Some b
    → fixed_len j + captured_in j order a block ≡ fixed_len k + captured_in k order b block
len_at is order block j k a b p q x y =
    let kind : j ≡ k = p ∙ sym q in
    let i : a ≡ b = same_Some a b (sym x ∙ interface_at is order block j k p q ∙ y) in
    ap (λ (z : BlockKind). fixed_len z + captured_in z order a block) kind
    ∙ ap (λ (z : Interface). fixed_len k + captured_in k order z block) i

cut_or : (is : List Interface) (order : ByteOrder) (block : List ℕ) (g : CaptureFault)
    → HasCutFrame is order block → HasBlockFault is order block g → g ≡ FramePastBlock
cut_or is order block g u (inl k) = let e = ap fixed_len u.kind_is in let a = u.there in let b = k.0
    in absurd (omega arith)
cut_or is order block g u (inr (inl k)) = absurd (not_packet u.kind SectionHeader (u.kind_is
    ∙ k.0) (λ x. x) u.is_packet)
cut_or is order block g u (inr (inr (inl k))) = absurd (not_packet u.kind Description (u.kind_is
    ∙ k.0) (λ x. x) u.is_packet)
cut_or is order block g u (inr (inr (inr (inl k)))) = absurd (none-some u.interface (sym k.0.unknown
    ∙ interface_at is order block k.0.kind u.kind k.0.kind_is u.kind_is ∙ u.interface_is))
cut_or is order block g u (inr (inr (inr (inr k)))) = k.1

pub same_block_fault : (is : List Interface) (order : ByteOrder) (block : List ℕ)
    (f g : CaptureFault) → HasBlockFault is order block f → HasBlockFault is order block g → f ≡ g
same_block_fault is order block f g (inl h) k = h.1 ∙ sym (short_or is order block g h.0 k)
same_block_fault is order block f g (inr (inl h)) k = h.3
    ∙ sym (version_or is order block g h.0 h.1 k)
same_block_fault is order block f g (inr (inr (inl h))) k = h.2
    ∙ sym (option_or is order block g h.0 h.1.0 k)
same_block_fault is order block f g (inr (inr (inr (inl h)))) k = h.1
    ∙ sym (unknown_or is order block g h.0 k)
same_block_fault is order block f g (inr (inr (inr (inr h)))) k = h.1
    ∙ sym (cut_or is order block g h.0 k)

-- a block that has a meaning has no fault
section_says : (is : List Interface) (order : ByteOrder) (block : List ℕ) (g : CaptureFault)
    → block_kind order block ≡ SectionHeader → 28 ≤ length block → IsSectionVersion order block
    → HasBlockFault is order block g → ⊥
section_says is order block g header there version (inl k) = let e = ap fixed_len header
    in let a = k.0 in absurd (omega arith)
section_says is order block g header there version (inr (inl k)) = k.2 version
section_says is order block g header there version (inr (inr (inl k))) = let n =
    ap place (same_kind _ _ _ header k.0) in absurd (omega arith)
section_says is order block g header there version (inr (inr (inr (inl k)))) = not_packet k.0.kind
    SectionHeader (k.0.kind_is ∙ header) (λ x. x) k.0.is_packet
section_says is order block g header there version (inr (inr (inr (inr k)))) = not_packet k.0.kind
    SectionHeader (k.0.kind_is ∙ header) (λ x. x) k.0.is_packet

interface_says : (is : List Interface) (order : ByteOrder) (block : List ℕ) (i : Interface)
    (g : CaptureFault) → block_kind order block ≡ Description → Describes order block i
    → HasBlockFault is order block g → ⊥
interface_says is order block i g kind d (inl k) = let e = ap fixed_len kind in let a = d.0
    in let b = k.0 in absurd (omega arith)
interface_says is order block i g kind d (inr (inl k)) = let n = ap place (same_kind _ _ _ kind k.0)
    in absurd (omega arith)
interface_says is order block i g kind d (inr (inr (inl k))) = whole_or_cut order (options_in block)
    d.1.options k.1.1.options d.1.are k.1.1.cut
interface_says is order block i g kind d (inr (inr (inr (inl k)))) = not_packet k.0.kind Description
    (k.0.kind_is ∙ kind) (λ x. x) k.0.is_packet
interface_says is order block i g kind d (inr (inr (inr (inr k)))) = not_packet k.0.kind Description
    (k.0.kind_is ∙ kind) (λ x. x) k.0.is_packet

frame_says : (is : List Interface) (order : ByteOrder) (block : List ℕ) (f : FrameContent)
    (g : CaptureFault) → HasFrame is order block f → HasBlockFault is order block g → ⊥
frame_says is order block f g u (inl k) = let e = ap fixed_len u.kind_is in let a = u.there
    in let b = k.0 in absurd (omega arith)
frame_says is order block f g u (inr (inl k)) = not_packet u.kind SectionHeader (u.kind_is
    ∙ k.0) (λ x. x) u.is_packet
frame_says is order block f g u (inr (inr (inl k))) = not_packet u.kind Description (u.kind_is
    ∙ k.0) (λ x. x) u.is_packet
frame_says is order block f g u (inr (inr (inr (inl k)))) = none-some u.interface (sym k.0.unknown
    ∙ interface_at is order block k.0.kind u.kind k.0.kind_is u.kind_is ∙ u.interface_is)
frame_says is order block f g u (inr (inr (inr (inr k)))) =
    let e = len_at is order block u.kind k.0.kind u.interface k.0.interface u.kind_is k.0.kind_is
    u.interface_is k.0.interface_is in
    let a = u.whole in let b = k.0.cut in absurd (omega arith)

other_says : (is : List Interface) (order : ByteOrder) (block : List ℕ) (g : CaptureFault)
    → block_kind order block ≡ Unread → 12 ≤ length block → HasBlockFault is order block g → ⊥
other_says is order block g kind there (inl k) = let e = ap fixed_len kind in let a = k.0
    in absurd (omega arith)
other_says is order block g kind there (inr (inl k)) = let n = ap place (same_kind _ _ _ kind k.0)
    in absurd (omega arith)
other_says is order block g kind there (inr (inr (inl k))) = let n =
    ap place (same_kind _ _ _ kind k.0) in absurd (omega arith)
other_says is order block g kind there (inr (inr (inr (inl k)))) = not_packet k.0.kind Unread
    (k.0.kind_is ∙ kind) (λ x. x) k.0.is_packet
other_says is order block g kind there (inr (inr (inr (inr k)))) = not_packet k.0.kind Unread
    (k.0.kind_is ∙ kind) (λ x. x) k.0.is_packet

pub no_fault_with_event : (is : List Interface) (order : ByteOrder) (block : List ℕ)
    (s : BlockEvent) (g : CaptureFault) → 12 ≤ length block → BlockSays is order block s
    → HasBlockFault is order block g → ⊥
no_fault_with_event is order block section_begins g there h k = section_says is
    order block g h.0 h.1 h.2 k
no_fault_with_event is order block (interface_added i) g there h k = interface_says is
    order block i g h.0 h.1 k
no_fault_with_event is order block (frame_came f) g there h k = frame_says is order block f g h k
no_fault_with_event is order block passed_over g there h k = other_says is order block g h there k

pub block_len : (section : ByteOrder) (bytes : List ℕ) (order : ByteOrder) (block : List ℕ)
    → IsBlock section bytes order block → 12 ≤ length block
block_len section bytes order block b = let a = b.counted.0 in let w = b.whole
    in let e = ap (λ (x : List ℕ). length x) b.block_is
    in omega (arith, length-take (u32_in order bytes 4) bytes)
