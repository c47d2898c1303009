use Rattle.std.proofs.Common.{◌⊎◌, ℕ, Option, None, Some, inl, inr, subst}
use Rattle.std.specs.Prelude.{MatchOption}
use Rattle.feed_text.specs.Rules.{IsJoinedAt, IsPastGap}
use Rattle.feed_text.proofs.skipping.join_or_gap.Goals as goal

-- where the first doesn't hold of any number, the second one alone does
or_else : (A B : ℕ → Type 0) (o : Option ℕ) → ((n : ℕ) → A n → ⊥)
    → MatchOption o ((n : ℕ) → B n → ⊥) (λ n. B n)
    → MatchOption o ((n : ℕ) → A n ⊎ B n → ⊥) (λ n. A n ⊎ B n)
or_else A B None none other = λ n x. elim x [
  | inl a ↦ none n a
  | inr b ↦ other n b
]
or_else A B (Some n) none some = inr some

pub returns-in-None : goal.returns-in-None
returns-in-None c = λ h f.
    let none = subst (λ (o : Option ℕ). MatchOption o
    ((n : ℕ) → IsJoinedAt h c.args.packet.now n → ⊥)
    (λ n. IsJoinedAt h c.args.packet.now n)) c.in-None.is
    (c.join_at.ensures c.args.window h f) in
    or_else (IsJoinedAt h c.args.packet.now) (IsPastGap c.args.window h c.args.packet.now)
    c.gap_before.result none (c.gap_before.ensures h f)
