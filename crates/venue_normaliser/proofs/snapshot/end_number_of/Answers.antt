use Rattle.std.proofs.Common.{◌≡◌, ℕ, ◌-◌, List, arith, drop, length, length-drop, subst, sym, take, take_all}
use Rattle.venue_normaliser.specs.Snapshots.{IsNumberField}
use Rattle.venue_normaliser.proofs.snapshot.end_number_of.Goals as goal

pub returns-in-None-clause-none : goal.returns-in-None-clause-none
returns-in-None-clause-none c =
    let m = c.args.message.now in
    let whole : take (length m - 1) (drop 1 m) ≡ drop 1 m =
    take_all (length m - 1) (drop 1 m) (omega (arith, length-drop 1 m)) in
    λ number ends. c.in-None.ensures.none number
    (subst (λ (f : List ℕ). IsNumberField f number) (sym whole) ends.field) ends.one ends.most
