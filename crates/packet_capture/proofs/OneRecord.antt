-- A savefile's header and a packet record have one reading.
use Rattle.std.proofs.Common.{◌≡◌, ℕ, List, sym, ap, subst, ◌∙◌, arith, inl, inr}
use Rattle.std.proofs.lemmas.Option.{same_Some}
use Rattle.packet_capture.specs.declared.savefile.Magic.{Magic}
use Rattle.packet_capture.specs.declared.savefile.Savefile.{Savefile}
use Rattle.packet_capture.specs.declared.stop.NoPiece.{NoPiece}
use Rattle.packet_capture.specs.Frames.{FrameContent}
use Rattle.packet_capture.specs.Savefiles.{IsVersion, savefile_at, BeginsSavefile, HasOtherVersion, IsPacketRecord}
use Rattle.packet_capture.specs.Stops.{StopsInHeader, StopsInRecord}

pub same_savefile : (bytes : List ℕ) (s t : Savefile) → BeginsSavefile bytes s
    → BeginsSavefile bytes t → s ≡ t
same_savefile bytes s t a b =
    let magic : a.magic ≡ b.magic = same_Some a.magic b.magic (sym a.magic_is ∙ b.magic_is) in
    a.is ∙ ap (λ (m : Magic). savefile_at m bytes) magic ∙ sym b.is

no_other_version : (bytes : List ℕ) (s : Savefile) → BeginsSavefile bytes s
    → HasOtherVersion bytes → ⊥
no_other_version bytes s a b =
    let magic : a.magic ≡ b.magic = same_Some a.magic b.magic (sym a.magic_is ∙ b.magic_is) in
    let P : Magic → Type 0 = λ m. IsVersion m bytes in
    b.other (subst P magic a.version)

pub no_header_stop : (bytes : List ℕ) (s : Savefile) (stop : NoPiece) → BeginsSavefile bytes s
    → StopsInHeader bytes stop → ⊥
no_header_stop bytes s stop a (inl k) = let x = a.there in let y = k.0 in absurd (omega arith)
no_header_stop bytes s stop a (inr k) = no_other_version bytes s a k.0

pub same_header_stop : (bytes : List ℕ) (s t : NoPiece) → StopsInHeader bytes s
    → StopsInHeader bytes t → s ≡ t
same_header_stop bytes s t (inl h) (inl k) = h.1 ∙ sym k.1
same_header_stop bytes s t (inr h) (inr k) = h.1 ∙ sym k.1
same_header_stop bytes s t (inl h) (inr k) = let x = k.0.there in let y = h.0
    in absurd (omega arith)
same_header_stop bytes s t (inr h) (inl k) = let x = h.0.there in let y = k.0
    in absurd (omega arith)

pub same_record : (s : Savefile) (bytes : List ℕ) (f g : FrameContent) → IsPacketRecord s bytes f
    → IsPacketRecord s bytes g → f ≡ g
same_record s bytes f g a b =
    let link : f.link ≡ g.link = a.link ∙ sym b.link in
    let time : f.time ≡ g.time = a.time ∙ sym b.time in
    let wire_len : f.wire_len ≡ g.wire_len = a.wire_len ∙ sym b.wire_len in
    let bytes_are : f.bytes ≡ g.bytes = a.bytes_are ∙ sym b.bytes_are in
    λ i. record { link = link i; time = time i; wire_len = wire_len i; bytes = bytes_are i }

pub no_record_stop : (s : Savefile) (bytes : List ℕ) (f : FrameContent) (stop : NoPiece)
    → IsPacketRecord s bytes f → StopsInRecord s bytes stop → ⊥
no_record_stop s bytes f stop a (inl k) = let x = a.there in let y = k.0 in absurd (omega arith)
no_record_stop s bytes f stop a (inr (inl k)) = let x = a.short in let y = k.1
    in absurd (omega arith)
no_record_stop s bytes f stop a (inr (inr k)) = let x = a.whole in let y = k.2
    in absurd (omega arith)

pub same_record_stop : (s : Savefile) (bytes : List ℕ) (x y : NoPiece) → StopsInRecord s bytes x
    → StopsInRecord s bytes y → x ≡ y
same_record_stop s bytes x y (inl h) (inl k) = h.1 ∙ sym k.1
same_record_stop s bytes x y (inl h) (inr (inl k)) = let a = h.0 in let b = k.0
    in absurd (omega arith)
same_record_stop s bytes x y (inl h) (inr (inr k)) = let a = h.0 in let b = k.0
    in absurd (omega arith)
same_record_stop s bytes x y (inr (inl h)) (inl k) = let a = h.0 in let b = k.0
    in absurd (omega arith)
same_record_stop s bytes x y (inr (inl h)) (inr (inl k)) = h.2 ∙ sym k.2
same_record_stop s bytes x y (inr (inl h)) (inr (inr k)) = let a = h.1 in let b = k.1
    in absurd (omega arith)
same_record_stop s bytes x y (inr (inr h)) (inl k) = let a = h.0 in let b = k.0
    in absurd (omega arith)
same_record_stop s bytes x y (inr (inr h)) (inr (inl k)) = let a = h.1 in let b = k.1
    in absurd (omega arith)
same_record_stop s bytes x y (inr (inr h)) (inr (inr k)) = h.3 ∙ sym k.3
