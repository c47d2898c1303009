use Rattle.std.proofs.Common.{ℕ, ◌+◌, ◌-◌, length, rules, arith, ap}
use Rattle.journal_book.specs.Cursors.{GoesToNext}
use Rattle.journal_book.proofs.Offering.{seek_goes, seek_none, stands_there}
use Rattle.journal_book.proofs.journal.Journal.seek_offer.Goals as goal
use Rattle.journal_book.proofs.journal.Journal.seek_offer.Goals.{Joined-else-is_none}
use Rattle.journal_book.proofs.journal.Journal.seek_offer.Given.{Over}

pub returns-then-unseen-most-clause-unfinished : goal.returns-then-unseen-most-clause-unfinished
returns-then-unseen-most-clause-unfinished g c =
    let unseen : ℕ = length c.rest-rest.result.changes.now - c.rest-rest.result.from in
    seek_none c.args.self.now c.args.id c.rest-rest.result.from
    c.next_wanted-place.result c.args.most unseen
    (c.rest-rest.result.from + c.min.result) c.terms.result.now
    c.rest-rest.result.changes.now c.terms.ensures c.rest-rest.ensures (let within =
    c.rest-rest.ensures.within in omega arith)
    (ap (λ (n : ℕ). c.rest-rest.result.from + n) c.min.ensures)
    c.next_wanted-place.ensures.next c.next_wanted-place.ensures.forth
    c.move_on.new.self c.move_on.ensures
    (search rules) c.if-unseen-most.true

-- the search ended
goes : (g : Over) (c : Joined-else-is_none g)
    → GoesToNext c.args.self.now c.args.id c.notice_at-found.result c.move_on.new.self
goes g c =
    let unseen : ℕ = length c.rest-rest.result.changes.now - c.rest-rest.result.from in
    seek_goes c.args.self.now c.args.id c.rest-rest.result.from
    c.next_wanted-place.result c.args.most unseen
    (c.rest-rest.result.from + c.min.result) c.terms.result.now
    c.rest-rest.result.changes.now c.terms.ensures c.rest-rest.ensures (let within =
    c.rest-rest.ensures.within in omega arith)
    (ap (λ (n : ℕ). c.rest-rest.result.from + n) c.min.ensures)
    c.next_wanted-place.ensures.next c.next_wanted-place.ensures.forth c.move_on.new.self
    c.notice_at-found.result c.is_none.result
    c.move_on.ensures c.notice_at-found.ensures c.is_none.ensures c.else-is_none.either

pub returns-clause-goes : goal.returns-clause-goes
returns-clause-goes g c = goes g (goal.at.returns-clause-goes g c).Joined-else-is_none

pub returns-clause-stands : goal.returns-clause-stands
returns-clause-stands g c =
    stands_there c.args.self.now c.move_on.new.self c.args.id c.notice_at-found.result
    (goes g (goal.at.returns-clause-stands g c).Joined-else-is_none)
