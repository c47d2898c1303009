-- Options one after the other.
use Rattle.std.proofs.Common.{◌≡◌, ℕ, ◌≤◌, List, [], ◌∷◌, length, refl, sym, ap, subst, ◌∙◌}
use Rattle.packet_capture.specs.declared.fields.ByteOrder.{ByteOrder}
use Rattle.packet_capture.specs.declared.interface.Interface.{Interface}
use Rattle.packet_capture.specs.Fields.{u16_in}
use Rattle.packet_capture.specs.Interfaces.{OptionField, IsAtFront, after_option, AreOptions, CutAfter, with_option, with_options, HaveOptions, HaveCutOption}

-- Whatever options the rest is, all are options, of which those of the rest are left to say of the
-- interface so far; and where one of the rest is cut, one of all is.
pub record SoFar (order : ByteOrder) (bytes rest : List ℕ) (bare i : Interface) : Type 0 where
  pub whole : (os : List OptionField) → AreOptions order rest os
      → (all : List OptionField) × AreOptions order bytes all
      × (with_options order bare all ≡ with_options order i os)
  pub cut : (os : List OptionField) → CutAfter order rest os → HaveCutOption order bytes

pub so_far : (order : ByteOrder) (bytes : List ℕ) (bare : Interface)
    → SoFar order bytes bytes bare bare
so_far order bytes bare = record {
  whole = λ os are. (os, are, refl);
  cut = λ os cut. record { options = os; cut = cut };
}

pub one_more : (order : ByteOrder) (bytes rest after : List ℕ) (bare i j : Interface)
    (o : OptionField) → SoFar order bytes rest bare i → IsAtFront order rest o
    → after ≡ after_option order rest → j ≡ with_option order i o → SoFar order bytes after bare j
one_more order bytes rest after bare i j o h front goes says =
    let P : List ℕ → List OptionField → Type 0 = λ x os. AreOptions order x os in
    let Q : List ℕ → List OptionField → Type 0 = λ x os. CutAfter order x os in
    record {
      whole = λ os are.
          let all = h.whole (o ∷ os) (front, subst (λ (x : List ℕ). P x os) goes are) in
          (all.0, all.1, all.2 ∙ ap (λ (k : Interface). with_options order k os) (sym says));
      cut = λ os cut. h.cut (o ∷ os) (front, subst (λ (x : List ℕ). Q x os) goes cut);
    }

pub at_end : (order : ByteOrder) (bytes rest : List ℕ) (bare i : Interface)
    → SoFar order bytes rest bare i → (4 ≤ length rest → u16_in order rest 0 ≡ 0)
    → HaveOptions order bytes bare i
at_end order bytes rest bare i h end =
    let all = h.whole [] end in
    record { options = all.0; are = all.1; is = sym all.2 }

pub at_cut : (order : ByteOrder) (bytes rest : List ℕ) (bare i : Interface)
    → SoFar order bytes rest bare i → CutAfter order rest [] → HaveCutOption order bytes
at_cut order bytes rest bare i h cut = h.cut [] cut
