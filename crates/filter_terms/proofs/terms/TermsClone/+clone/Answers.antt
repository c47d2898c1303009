use Rattle.filter_terms.proofs.Copying.{copied_at, both_copied}
use Rattle.filter_terms.proofs.terms.TermsClone.+clone.Goals as goal

pub returns-in_ok-second-in-Both : goal.returns-in_ok-second-in-Both
returns-in_ok-second-in-Both t c = record {
  cases = rw c.in-Both.is (both_copied _ _ _ _
      (copied_at c.deref.ensures c.in_ok-first-in-Both.ensures.ok
      c.in_ok-clone-in-Both.ensures.cases)
      (copied_at c.deref-in-Both.ensures c.in_ok-second-in-Both.ensures.ok
      c.in_ok-clone-in-Both-2.ensures.cases));
}
