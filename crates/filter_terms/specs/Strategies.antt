-- The answers of a strategy.
use Rattle.std.specs.Prelude.{◌≡◌, Option, Some, None}
use Rattle.std.specs.Borrow.{Bor}
use Rattle.feed_types.specs.declared.journal.Notice.{Notice}
use Rattle.filter_terms.specs.declared.advice.Advice.{Advice}
use Rattle.filter_terms.specs.declared.advice.Advice.TheVariants.{Hold}
use Rattle.filter_terms.specs.declared.stored_strategy.StoredStrategy.{StoredStrategy}
use Rattle.filter_terms.specs.declared.strategy.Strategy.{Strategy}
use Rattle.filter_terms.specs.StoredStrategies.{MayAdvise}

-- the strategy's closure, or none of one that always holds
abbrev pub closure_of : {g F m : _} → Strategy g F m → Option (StoredStrategy g F m)
closure_of strategy = strategy.stored

-- the closure was asked and answered so, and is this one then; with none, the answer is to hold
abbrev pub AskedOf : {g F m : _} → Option (StoredStrategy g F m) → Bor Notice → Advice
    → Option (StoredStrategy g F m) → Type 0
AskedOf (Some old) notice advice (Some new) = MayAdvise old notice advice new
AskedOf None notice advice None = advice ≡ Hold
AskedOf (Some old) notice advice None = ⊥
AskedOf None notice advice (Some new) = ⊥

-- the strategy gave this answer to the notice, and is the new one then
abbrev pub Advises : {g F m : _} → Strategy g F m → Bor Notice → Advice → Strategy g F m → Type 0
Advises old notice advice new =
    AskedOf (closure_of old) notice advice (closure_of new) × (new.limits ≡ old.limits)
