use Rattle.std.proofs.Common.{ap, ◌∙◌, sym}
use Rattle.filter_terms.specs.Terms.{meets}
use Rattle.journal_book.proofs.NextPlaces.{found_here, none_found}
use Rattle.journal_book.proofs.search.search_from.Goals as goal

pub returns-then-is_wanted-clause-next : goal.returns-then-is_wanted-clause-next
returns-then-is_wanted-clause-next g c =
    found_here (meets c.args.terms.now) c.args.notices.now c.args.from c.loop-place.place
    c.index-notices-place.result c.loop-place-test.true
    (ap (meets c.args.terms.now) (sym c.index-notices-place.is) ∙ sym c.is_wanted.ensures
    ∙ c.if-is_wanted.true) c.loop-place.invariant.passed

pub returns-clause-next : goal.returns-clause-next
returns-clause-next g c =
    none_found (meets c.args.terms.now) c.args.notices.now c.args.from c.loop-place.place
    c.loop-place-test.false c.loop-place.invariant.passed
