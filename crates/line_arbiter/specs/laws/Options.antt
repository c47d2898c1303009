-- Values that may be there, and choices between them.
use Rattle.std.proofs.Common.{◌≡◌, Bool, true, false, cond, Option, Some, None, refl}
use Rattle.std.specs.Prelude.{IsSome, is_none, if◌then◌else◌}
use Rattle.std.specs.Option.{option_map, option_or}
use Rattle.std.proofs.lemmas.Bool.{false≢true}

pub or_none : {X : Type 0} (o : Option X) → option_or o None ≡ o
or_none None = refl
or_none (Some x) = refl

pub map_or : {A B : Type 0} (f : A → B) (o e : Option A)
    → option_map f (option_or o e) ≡ option_or (option_map f o) (option_map f e)
map_or f None e = refl
map_or f (Some x) e = refl

pub picked : {A B : Type 0} (f : A → B) (b : Bool) (x : A)
    → option_map f (cond b (Some x) None) ≡ (if b then Some (f x) else None)
picked f true x = refl
picked f false x = refl

pub IsSome-or : {X : Type 0} (o e : Option X) → IsSome o → IsSome (option_or o e)
IsSome-or None e h = absurd (false≢true h)
IsSome-or (Some x) e h = h

pub IsSome-unless : {X : Type 0} (b : Bool) (o : Option X) → IsSome (if b then None else o)
    → IsSome o
IsSome-unless true o h = absurd (false≢true h)
IsSome-unless false o h = h

pub some_not_none : {X : Type 0} (o : Option X) → IsSome o → is_none o ≡ false
some_not_none None h = absurd (false≢true h)
some_not_none (Some x) h = refl
