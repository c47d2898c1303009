use Rattle.std.proofs.Common.{ℕ, nat_eq, ap, ◌∙◌}
use Rattle.feed_types.proofs.Lanes.{misplaced, none_misplaced}
use Rattle.feed_types.proofs.symbol.misplaced.Goals as goal

pub returns : goal.returns
returns c = λ marks n e. ap (λ (w : ℕ). nat_eq (misplaced w) 0) e ∙ none_misplaced marks n
