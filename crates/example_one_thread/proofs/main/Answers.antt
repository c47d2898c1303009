use Rattle.std.specs.Prelude.{◌⊎◌}
use Rattle.std.proofs.Common.{rules, inl, inr}
use Rattle.filter_terms.specs.Boxed.{boxed_allowed}
use Rattle.example_one_thread.proofs.main.Goals as goal

-- not the first, which there is none of
past : {A : Type 0} → ⊥ ⊎ A → A
past (inl z) = absurd z
past (inr a) = a

-- The first code of a closure is that of this function; the crates below have kinds of stored
-- values, too, and none of them is made here.
pub new-strategy-requires-clause-right : goal.new-strategy-requires-clause-right
new-strategy-requires-clause-right g = boxed_allowed _ _ (elim [
  | inl u ↦ λ p q n r e. search (rules, e)
  | inr z ↦ λ p q n r e. absurd (past z)
]) _
