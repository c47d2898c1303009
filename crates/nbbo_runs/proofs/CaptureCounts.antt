-- What is said of counts.
use Rattle.std.proofs.Common.{◌≡◌, ℕ, zero, suc, Bool, true, false, List, [], ◌∷◌, refl, sym, subst, ◌∙◌, arith}
use Rattle.std.specs.Prelude.{◌==◌, codes, decimal, if◌then◌else◌}
use Rattle.std.proofs.lemmas.Bool.{eq-eqb, ne_eqb}
use Rattle.text_out.specs.Devices.{Writing}
use Rattle.text_out.specs.StandardError.{SaysEach}
use Rattle.line_captures.specs.declared.frame_counts.FrameCounts.{FrameCounts}
use Rattle.line_captures.specs.Counts.{total_of}
use Rattle.nbbo_runs.specs.CaptureTexts.{count_texts, datagrams_texts, frames_texts, no_line_texts, order_texts}

-- where all frames go to lines, and where not all do
pub frames_none : {S : Type 0} (w : Writing S) (counts : FrameCounts) (all : ℕ) (s : S)
    → all ≡ total_of counts → all ≡ counts.to_lines → SaysEach w (frames_texts counts) s s
frames_none w counts all s total same =
    let e : (total_of counts == counts.to_lines) ≡ true = eq-eqb _ _ (sym total ∙ same) in
    subst (λ (b : Bool). SaysEach w (if b then [] else datagrams_texts (total_of counts) counts) s
    s) (sym e) refl

pub frames_some : {S : Type 0} (w : Writing S) (counts : FrameCounts) (all : ℕ) (s t : S)
    → all ≡ total_of counts → (all ≡ counts.to_lines → ⊥)
    → SaysEach w (datagrams_texts all counts) s t → SaysEach w (frames_texts counts) s t
frames_some w counts all s t total some said =
    let e : (total_of counts == counts.to_lines) ≡ false =
    ne_eqb _ _ (λ same. some (total ∙ same)) in
    subst (λ (b : Bool). SaysEach w (if b then [] else datagrams_texts (total_of counts) counts) s
    t) (sym e) (subst (λ (n : ℕ). SaysEach w (datagrams_texts n counts) s t) total said)

pub counts_some : {S : Type 0} (w : Writing S) (label : List ℕ) (count : ℕ) (s t : S)
    → (count ≡ 0 → ⊥) → SaysEach w (label ∷ decimal count ∷ codes "\n" ∷ []) s t
    → SaysEach w (count_texts label count) s t
counts_some w label zero s t some said = absurd (some refl)
counts_some w label (suc n) s t some said = said

pub counts_none : {S : Type 0} (w : Writing S) (label : List ℕ) (count : ℕ) (s : S) → count ≡ 0
    → SaysEach w (count_texts label count) s s
counts_none w label zero s none = refl
counts_none w label (suc n) s none = absurd (omega arith)

pub no_line_some : {S : Type 0} (w : Writing S) (count : ℕ) (s : S) → (count ≡ 0 → ⊥)
    → SaysEach w (no_line_texts count) s s
no_line_some w zero s some = absurd (some refl)
no_line_some w (suc n) s some = refl

pub no_line_none : {S : Type 0} (w : Writing S) (count : ℕ) (s t : S) → count ≡ 0
    → SaysEach w (codes "nbbo: no datagram goes to a line\n" ∷ []) s t
    → SaysEach w (no_line_texts count) s t
no_line_none w zero s t none said = said
no_line_none w (suc n) s t none said = absurd (omega arith)

pub in_order : {S : Type 0} (w : Writing S) (count : ℕ) (s : S) → count ≡ 0
    → SaysEach w (order_texts count) s s
in_order w zero s none = refl
in_order w (suc n) s none = absurd (omega arith)

pub out_of_order : {S : Type 0} (w : Writing S) (count : ℕ) (s t : S) → (count ≡ 0 → ⊥)
    → SaysEach w (order_texts 1) s t → SaysEach w (order_texts count) s t
out_of_order w zero s t some said = absurd (some refl)
out_of_order w (suc n) s t some said = said
