-- What the verdict on a header says of the bytes that have it.
use Rattle.std.proofs.Common.{◌≡◌, ◌∙◌, List, ℕ, Bool, true, false, Option, None, Some, ap, refl, subst, sym}
use Rattle.std.specs.Prelude.{IsTrue, ◌↔◌}
use Rattle.mold_packet.specs.declared.request.Request.{Request}
use Rattle.udp_lines.specs.Plausible.{HasHeader, IsJudged, IsJudgedAs, header_checked, header_verdict}
use Rattle.udp_lines.specs.declared.number_check.NumberCheck.{NumberCheck}
use Rattle.udp_lines.specs.declared.number_check.Verdict.{Verdict}
use Rattle.udp_lines.specs.declared.venue_marks.OthersSeen.{OthersSeen}

abbrev from_some : {A : Type 0} → A → Option A → A
from_some x None = x
from_some x (Some y) = y

some_is : {A : Type 0} (x y : A) → Some x ≡ Some y → x ≡ y
some_is x y e = ap (from_some x) e

by_end : (most : ℕ) (check : NumberCheck) (seen : OthersSeen) (header : Request)
    (ended : Option (List ℕ)) (is_end : Bool) (verdict : Verdict) (after : NumberCheck)
    → (IsTrue is_end ↔ (ended ≡ Some check.session))
    → IsJudgedAs most check seen header is_end verdict after
    → ((ended ≡ Some check.session) → IsJudgedAs most check seen header true verdict after)
    × (((ended ≡ Some check.session) → ⊥) → IsJudgedAs most check seen header false verdict after)
by_end most check seen header ended true verdict after iff j = (
  λ _. j,
  λ other. absurd (other (iff.0 refl)),
)
by_end most check seen header ended false verdict after iff j = (
  λ is. absurd (cc (iff.1 is)),
  λ _. j,
)

pub judged_of : (most : ℕ) (check : NumberCheck) (bytes : List ℕ) (ended : Option (List ℕ))
    (seen : OthersSeen) (header : Request) (is_end : Bool) (verdict : Verdict)
    (after : NumberCheck) → check.most_ahead ≡ Some most
    → ((other : Request) → HasHeader bytes other → Some header ≡ Some other)
    → (IsTrue is_end ↔ (ended ≡ Some check.session))
    → verdict ≡ header_verdict most check seen header is_end
    → after ≡ record (header_checked most check seen header is_end) { highest = after.highest }
    → IsJudged check bytes ended seen verdict after
judged_of most check bytes ended seen header is_end verdict after asked only iff v k =
    λ m h a has of unbarred.
    let same_most : most ≡ m = some_is most m (sym asked ∙ a) in
    let same : header ≡ h = some_is header h (only h has) in
    let j : IsJudgedAs most check seen header is_end verdict after = record {
      verdict_is = v;
      knows = k;
    } in
    let j_of : IsJudgedAs most check seen h is_end verdict after =
    subst (λ (x : Request). IsJudgedAs most check seen x is_end verdict after) same j in
    by_end m check seen h ended is_end verdict after iff
    (subst (λ (x : ℕ). IsJudgedAs x check seen h is_end verdict after) same_most j_of)
