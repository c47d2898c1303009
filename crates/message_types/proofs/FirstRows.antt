-- One text more after the first ones.
use Rattle.std.proofs.Common.{◌≡◌, ◌+◌, ℕ, List, ◌++◌, add-one, append_assoc, sym, ap, ◌∙◌, Result, Ok, Err}
use Rattle.std.specs.Prelude.{OnOk}
use Rattle.report_rows.specs.FirstTexts.{first_texts}

pub one_more : (text : ℕ → List ℕ) (n : ℕ) (a b c : List ℕ) → b ≡ a ++ first_texts text n
    → c ≡ b ++ text n → c ≡ a ++ first_texts text (n + 1)
one_more text n a b c first next =
    next ∙ ap (λ (l : List ℕ). l ++ text n) first
    ∙ append_assoc a (first_texts text n) (text n)
    ∙ ap (λ (k : ℕ). a ++ first_texts text k) (sym (add-one n))

-- three texts, of which the last may fail
pub last_of_three : {T E : Type 0} (r : Result T E) (x y z w a b d : List ℕ) → y ≡ x ++ a
    → z ≡ y ++ b → OnOk r (w ≡ z ++ d) → OnOk r (w ≡ x ++ (a ++ (b ++ d)))
last_of_three (Ok t) x y z w a b d first next last =
    last ∙ ap (λ (l : List ℕ). l ++ d) (next ∙ ap (λ (l : List ℕ). l ++ b) first)
    ∙ append_assoc (x ++ a) b d ∙ append_assoc x a (b ++ d)
last_of_three (Err e) x y z w a b d first next last = tt
