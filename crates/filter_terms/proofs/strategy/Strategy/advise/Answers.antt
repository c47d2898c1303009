use Rattle.filter_terms.specs.Advising.{one_allowed, still_allowed}
use Rattle.filter_terms.proofs.strategy.Strategy.advise.Goals as goal

pub invariant_of-self : goal.invariant_of-self
invariant_of-self g c =
    let keeps = rw c.in-Some.is at c.args.self.now.right in
    record { right = still_allowed _ _ _ _ _ _ keeps c.ask.ensures }

pub returns-in-Some-clause-allowed : goal.returns-in-Some-clause-allowed
returns-in-Some-clause-allowed g c =
    let keeps = rw c.in-Some.is at c.args.self.now.right in
    one_allowed _ _ _ _ _ _ keeps c.ask.ensures
