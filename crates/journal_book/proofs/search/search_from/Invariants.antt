use Rattle.std.proofs.Common.{◌≡◌, ◌≤◌, take, filter}
use Rattle.filter_terms.specs.Terms.{meets}
use Rattle.journal_book.proofs.search.search_from.Given as goal

abbrev pub invariant-loop-place : goal.invariant-loop-place
invariant-loop-place g l = record {
  passed : filter (meets l.terms) (take l.place l.notices) ≡ filter (meets l.terms)
      (take l.from l.notices);
  forth : l.from ≤ l.place;
}
