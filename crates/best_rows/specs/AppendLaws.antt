-- Laws of parts that were appended, one after the other.
use Rattle.std.proofs.Common.{◌≡◌, ℕ, ◌+◌, List, ◌++◌, length, append_assoc, ap, subst, ◌∙◌, arith, length-append}
use Rattle.text_out.specs.Pages.{Appends, BufferedText}

-- one part after another
pub appends_more : {a b c : BufferedText} {xs ys : List ℕ} {m n : ℕ}
    → Appends a xs m b → Appends b ys n c
    → Appends a (xs ++ ys) (m + n) c
appends_more {a} {b} {c} {xs} {ys} {m} {n} first next =
    let len : length (xs ++ ys) ≡ length xs + length ys = length-append xs ys in
    record {
      items = next.items ∙ ap (λ (s : List ℕ). s ++ ys) first.items ∙ append_assoc a.items xs ys;
      few = omega (arith, len, first.few, next.few);
      room = omega (arith, len, first.room, next.room);
    }

-- under another spelling
pub appends_as : {a b : BufferedText} {xs ys : List ℕ} {m : ℕ} → Appends a xs m b
    → xs ≡ ys → Appends a ys m b
appends_as {a} {b} {xs} {ys} {m} h e = subst (λ (s : List ℕ). Appends a s m b) e h
