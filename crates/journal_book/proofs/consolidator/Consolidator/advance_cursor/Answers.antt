use Rattle.journal_book.specs.CursorLaws.{past_stays, past_many}
use Rattle.journal_book.specs.OfferLaws.{stands_still, one_offered}
use Rattle.journal_book.proofs.consolidator.Consolidator.advance_cursor.Goals as goal

pub advance_cursor-requires : goal.advance_cursor-requires
advance_cursor-requires g c = stands_still c.args.self.now.journal c.next_offer-counted.new.self
    c.args.id c.next_offer-counted.result c.next_offer-counted.ensures.goes
    c.next_offer-counted.ensures.stands c.requires.next

pub returns-clause-offered : goal.returns-clause-offered
returns-clause-offered g c = one_offered c.args.self.now.journal c.next_offer-counted.new.self
    c.args.id c.next_offer-counted.result c.next_offer-counted.ensures.goes
    c.advance_cursor.new.self c.advance_cursor.ensures c.requires.next

pub returns-clause-stays : goal.returns-clause-stays
returns-clause-stays g c = past_stays c.args.self.now.journal c.next_offer-counted.new.self
    c.advance_cursor.new.self c.args.id c.next_offer-counted.result
    c.next_offer-counted.ensures.goes c.advance_cursor.ensures

pub returns-clause-known : goal.returns-clause-known
returns-clause-known g c = past_many c.args.self.now.journal c.next_offer-counted.new.self
    c.advance_cursor.new.self c.args.id c.next_offer-counted.result
    c.next_offer-counted.ensures.goes c.advance_cursor.ensures
