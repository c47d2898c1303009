-- Laws of what a closure that keeps limits answers to one more call. They are proved here.
use Rattle.std.proofs.Common.{[], ◌∷◌, Bor}
use Rattle.std.specs.Fn.{Called, Mut}
use Rattle.feed_types.specs.declared.journal.Notice.{Notice}
use Rattle.filter_terms.specs.declared.advice.Advice.{Advice}
use Rattle.filter_terms.specs.declared.advice.Limits.{Limits}
use Rattle.filter_terms.specs.Allowed.{IsAllowed}
use Rattle.filter_terms.specs.StoredStrategies.{AlwaysAllowed}

module _ {F : Type 0} (members : Mut F (Bor Notice × Unit {0}) Advice) (limits : Limits)
    (old new : F) (asked : Bor Notice × Unit {0}) (advice : Advice)
    (keeps : AlwaysAllowed members limits old) (called : Called members old asked advice new) where
  -- the answer is allowed
  pub one_allowed : IsAllowed limits asked.0.now advice
  one_allowed = (keeps.at (asked ∷ []) advice new called).0

  -- and so are those after it
  pub still_allowed : AlwaysAllowed members limits new
  still_allowed = record { at = λ calls. (keeps.at (asked ∷ calls) advice new called).1 }
