-- The laws of the rule of notices, which `src/rules.rt` cites; nothing here has to be believed.
use Rattle.std.proofs.Common.{◌<◌, List, [], ◌++◌, length, arith, subst, length-append}
use Rattle.std.proofs.Math.ListN.{get_or-append}
use Rattle.std.specs.Prelude.{AllPairs}

module _ {X : Type 0} (R : X → X → Type 0) where
  pub AllPairs-none : AllPairs R []
  AllPairs-none i j d below within = absurd (omega arith)

  pub AllPairs-prefix : (xs ys : List X) → AllPairs R (xs ++ ys) → AllPairs R xs
  AllPairs-prefix xs ys all i j d below within =
      let longer : j < length (xs ++ ys) = omega (arith, length-append xs ys) in
      let first : i < length xs = omega arith in
      subst (λ (y : X × X). R y.0 y.1)
      (λ k. (get_or-append xs ys d i first k, get_or-append xs ys d j within k))
      (all i j d below longer)
