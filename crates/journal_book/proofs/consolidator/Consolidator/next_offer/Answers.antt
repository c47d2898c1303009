use Rattle.journal_book.specs.CursorLaws.{goes_stays, goes_many}
use Rattle.journal_book.specs.OfferLaws.{next_is, none_offered, next_stays}
use Rattle.journal_book.proofs.consolidator.Consolidator.next_offer.Goals as goal

pub returns-clause-next : goal.returns-clause-next
returns-clause-next g c = next_is c.args.self.now.journal c.next_offer.new.self c.args.id
    c.next_offer.result c.next_offer.ensures.goes

pub returns-clause-offered : goal.returns-clause-offered
returns-clause-offered g c = none_offered c.args.self.now.journal c.next_offer.new.self c.args.id
    c.next_offer.result c.next_offer.ensures.goes

pub returns-clause-stays : goal.returns-clause-stays
returns-clause-stays g c = goes_stays c.args.self.now.journal c.next_offer.new.self c.args.id
    c.next_offer.result c.next_offer.ensures.goes

pub returns-clause-still : goal.returns-clause-still
returns-clause-still g c = next_stays c.args.self.now.journal c.next_offer.new.self c.args.id
    c.next_offer.result c.next_offer.ensures.goes

pub returns-clause-known : goal.returns-clause-known
returns-clause-known g c = goes_many c.args.self.now.journal c.next_offer.new.self c.args.id
    c.next_offer.result c.next_offer.ensures.goes
