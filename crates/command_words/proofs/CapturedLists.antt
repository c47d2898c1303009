-- The lines of a capture, by the number of venues that a list names.
use Rattle.std.proofs.Common.{Err, ◌≡◌, inl, inr, ◌⊎◌, ℕ, zero, suc, ◌+◌, ◌≤◌, List, sym, subst, arith}
use Rattle.command_words.specs.CapturedLines.{ReadsCapturedLines}
use Rattle.command_words.specs.declared.refusal.Refusal.TheVariants.{BadLines}

cut : (m n : ℕ) → m ≤ n + 1 → (m ≤ n) ⊎ (m ≡ n + 1)
cut zero n h = inl (omega arith)
cut (suc m) zero h = inr (omega arith)
cut (suc m) (suc n) h = elim (cut m n (omega arith)) [
  | inl less ↦ inl (omega arith)
  | inr
      same ↦ inr (omega arith)
]

-- one number of venues more for which the list names none
pub none_more : (list : List ℕ) (n : ℕ)
    → ((venues : ℕ) → 1 ≤ venues → venues ≤ n → ReadsCapturedLines list venues (Err BadLines))
    → ReadsCapturedLines list (n + 1) (Err BadLines)
    → (venues : ℕ) → 1 ≤ venues → venues ≤ n + 1 → ReadsCapturedLines list venues (Err BadLines)
none_more list n none one venues some few =
    let P : ℕ → Type 0 = λ v. ReadsCapturedLines list v (Err BadLines) in
    elim (cut venues n few) [ inl less ↦ none venues some less | inr same ↦ subst P (sym same) one ]
