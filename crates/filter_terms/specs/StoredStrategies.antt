-- What a strategy's closure may answer, call after call.
use Rattle.std.specs.Prelude.{List, [], ◌∷◌, Option, Some, None}
use Rattle.std.specs.Coded.{Π_prop, →_prop, ×_prop, Unit-prop}
use Rattle.std.specs.Fn.{Called, Mut, AlwaysReturns, ReturnsEach}
use Rattle.std.specs.Borrow.{Bor}
use Rattle.feed_types.specs.declared.journal.Notice.{Notice}
use Rattle.filter_terms.specs.declared.advice.Advice.{Advice}
use Rattle.filter_terms.specs.declared.advice.Limits.{Limits}
use Rattle.filter_terms.specs.declared.stored_strategy.StoredStrategy.{StoredStrategy}
use Rattle.filter_terms.specs.Boxes.{in_box_mut}
use Rattle.filter_terms.specs.Allowed.{IsAllowed, IsAllowed-prop}

-- after any calls, from this state of the closure on, each advice is allowed
abbrev pub AlwaysAllowed : {F : Type 0} → Mut F (Bor Notice × Unit {0}) Advice → Limits → F → Type 0
AlwaysAllowed members limits closure =
    AlwaysReturns members (λ asked advice. IsAllowed limits asked.0.now advice) closure

-- so it is of the closure, if there is one
abbrev pub KeepsLimits : {g F m : _} → Limits → Option (StoredStrategy g F m) → Type 0
KeepsLimits limits None = Unit {0}
KeepsLimits {g} {F} {m} limits (Some stored) = AlwaysAllowed (in_box_mut m) limits stored.advise

-- the closure may answer the notice so, and is this one then
abbrev pub MayAdvise : {g F m : _} → StoredStrategy g F m → Bor Notice → Advice
    → StoredStrategy g F m → Type 0
MayAdvise {g} {F} {m} old notice advice new =
    Called (in_box_mut m) old.advise (notice, tt) advice new.advise

-- these facts have one proof at most, as a fact that a struct keeps must
module _ {F : Type 0} (members : Mut F (Bor Notice × Unit {0}) Advice) (limits : Limits) where
  ReturnsEach-prop : (closure : F) (calls : List (Bor Notice × Unit {0}))
      → IsProp (ReturnsEach members
      (λ asked advice. IsAllowed limits asked.0.now advice) closure calls)
  ReturnsEach-prop closure [] = Unit-prop
  ReturnsEach-prop closure (asked ∷ calls) = Π_prop (λ advice. Π_prop (λ next. →_prop
      (×_prop (IsAllowed-prop limits asked.0.now advice) (ReturnsEach-prop next calls))))

  pub AlwaysAllowed-prop : (closure : F) → IsProp (AlwaysAllowed members limits closure)
  AlwaysAllowed-prop closure p q =
      λ i. record { at = λ calls. ReturnsEach-prop closure calls (p.at calls) (q.at calls) i }

pub KeepsLimits-prop : {g F m : _} (limits : Limits) (stored : Option (StoredStrategy g F m))
    → IsProp (KeepsLimits limits stored)
KeepsLimits-prop limits None = Unit-prop
KeepsLimits-prop {g} {F} {m} limits (Some stored) =
    AlwaysAllowed-prop (in_box_mut m) limits stored.advise
