use Rattle.std.proofs.Common.{rules, inl, inr}
use Rattle.filter_terms.specs.Boxed.{boxed_allowed}
use Rattle.example_live_feed.proofs.Serving.{at_ok, each_served}
use Rattle.example_live_feed.proofs.run_feed.Goals as goal

-- The two codes of closures are those of this function, each of which keeps the limits.
pub new-buyer-requires-clause-right : goal.new-buyer-requires-clause-right
new-buyer-requires-clause-right g c = boxed_allowed _ _ (elim [
  | inl u ↦ λ p q n r e. search (rules, e)
  | inr (inl u) ↦ λ p q n r e. search (rules, e)
  | inr (inr z) ↦ λ p q n r e. absurd z
]) _

pub new-seller-requires-clause-right : goal.new-seller-requires-clause-right
new-seller-requires-clause-right g c = boxed_allowed _ _ (elim [
  | inl u ↦ λ p q n r e. search (rules, e)
  | inr (inl u) ↦ λ p q n r e. search (rules, e)
  | inr (inr z) ↦ λ p q n r e. absurd z
]) _

pub returns-in-Ok : goal.returns-in-Ok
returns-in-Ok g c =
    let ran = c.run_whole-outcome in
    let run = at_ok _ ran.result.outcome c.in-Ok.report c.in-Ok.is ran.ensures.whole in
    each_served c.in-Ok.report.settlement run.settled
