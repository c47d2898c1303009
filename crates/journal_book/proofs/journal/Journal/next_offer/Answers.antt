use Rattle.journal_book.proofs.Offering.{goes_within, goes_on, stands_there}
use Rattle.journal_book.proofs.journal.Journal.next_offer.Goals as goal

pub move_on-requires : goal.move_on-requires
move_on-requires g c =
    goes_within c.args.self.now c.args.id c.rest-rest.result.from c.next_wanted-place.result
    c.terms.result.now c.rest-rest.result.changes.now c.terms.ensures c.rest-rest.ensures
    c.next_wanted-place.ensures.next c.next_wanted-place.ensures.forth

pub returns-clause-goes : goal.returns-clause-goes
returns-clause-goes g c =
    goes_on c.args.self.now c.args.id c.rest-rest.result.from c.next_wanted-place.result
    c.terms.result.now c.rest-rest.result.changes.now c.terms.ensures c.rest-rest.ensures
    c.next_wanted-place.ensures.next c.next_wanted-place.ensures.forth c.move_on.new.self
    c.notice_at-found.result c.move_on.ensures c.notice_at-found.ensures

pub returns-clause-stands : goal.returns-clause-stands
returns-clause-stands g c =
    stands_there c.args.self.now c.move_on.new.self c.args.id c.notice_at-found.result
    (goes_on c.args.self.now c.args.id c.rest-rest.result.from c.next_wanted-place.result
    c.terms.result.now c.rest-rest.result.changes.now c.terms.ensures c.rest-rest.ensures
    c.next_wanted-place.ensures.next c.next_wanted-place.ensures.forth c.move_on.new.self
    c.notice_at-found.result c.move_on.ensures c.notice_at-found.ensures)
