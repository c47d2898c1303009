-- 20 bytes spell one request.
use Rattle.std.proofs.Common.{◌≡◌, ℕ, ◌≤◌, List, [], length, refl, sym, ap, ◌∙◌, arith}
use Rattle.std.proofs.lemmas.List.{append-nil}
use Rattle.mold_packet.specs.declared.fault.PacketFault.{PacketFault}
use Rattle.mold_packet.specs.declared.fault.PacketFault.TheVariants.{ShortHeader, TruncatedBlock, ZeroSequence, SequenceOverflow, BufferTooSmall, BadRequestLength}
use Rattle.mold_packet.specs.declared.request.Request.{Request}
use Rattle.mold_packet.specs.Header.{header}
use Rattle.mold_packet.specs.Request.{SpellsRequest, HasRequestFault}
use Rattle.mold_packet.specs.laws.HeaderFields.{Parts, parts, length-header}

parts_of : (bytes : List ℕ) (r : Request) → SpellsRequest bytes r
    → Parts bytes r.session r.number r.count []
parts_of bytes r s = parts bytes r.session r.number r.count [] s.session s.small s.few (s.spelled
    ∙ sym (append-nil (header r.session r.number r.count)))

pub same_request : (bytes : List ℕ) (r s : Request) → SpellsRequest bytes r
    → SpellsRequest bytes s → r ≡ s
same_request bytes r s h k =
    let a = parts_of bytes r h in
    let b = parts_of bytes s k in
    λ i. record {
      session = (sym a.session_is ∙ b.session_is) i;
      number = (sym a.number_is
          ∙ b.number_is) i;
      count = (sym a.count_is ∙ b.count_is) i;
    }

pub no_request_fault : (bytes : List ℕ) (r : Request) (fault : PacketFault) → SpellsRequest bytes r
    → 1 ≤ r.number → HasRequestFault bytes fault → ⊥
no_request_fault bytes r BadRequestLength s one h = h (ap (λ (x : List ℕ). length x) s.spelled
    ∙ length-header r.session r.number r.count s.session)
no_request_fault bytes r ZeroSequence s one h = let number = (parts_of bytes r s).number_is
    in let none = h.1 in omega arith
no_request_fault bytes r ShortHeader s one h = h
no_request_fault bytes r TruncatedBlock s one h = h
no_request_fault bytes r SequenceOverflow s one h = h
no_request_fault bytes r BufferTooSmall s one h = h

pub same_request_fault : (bytes : List ℕ) (f g : PacketFault) → HasRequestFault bytes f
    → HasRequestFault bytes g → f ≡ g
same_request_fault bytes BadRequestLength BadRequestLength h k = refl
same_request_fault bytes BadRequestLength ZeroSequence h k = absurd (h k.0)
same_request_fault bytes ZeroSequence BadRequestLength h k = absurd (k h.0)
same_request_fault bytes ZeroSequence ZeroSequence h k = refl
same_request_fault bytes ShortHeader g h k = absurd h
same_request_fault bytes TruncatedBlock g h k = absurd h
same_request_fault bytes SequenceOverflow g h k = absurd h
same_request_fault bytes BufferTooSmall g h k = absurd h
same_request_fault bytes f ShortHeader h k = absurd k
same_request_fault bytes f TruncatedBlock h k = absurd k
same_request_fault bytes f SequenceOverflow h k = absurd k
same_request_fault bytes f BufferTooSmall h k = absurd k
