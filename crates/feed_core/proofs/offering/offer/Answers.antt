use Rattle.std.proofs.Common.{sym, ◌∙◌}
use Rattle.feed_core.proofs.Offers.{offer_none, offer_full, offer_one}
use Rattle.feed_core.proofs.offering.offer.Goals as goal

pub returns-in_default-clause-offers : goal.returns-in_default-clause-offers
returns-in_default-clause-offers g c = λ subscription x at f.
    offer_none c.args.journal.now c.next_offer.new.self c.args.id c.args.capacity
    c.next_offer.result c.next_offer.ensures.goes
    subscription c.args.lane.now x at f (sym c.in_default.is)

pub returns-then-is_full-clause-offers : goal.returns-then-is_full-clause-offers
returns-then-is_full-clause-offers g c = λ subscription x at f.
    offer_full c.args.journal.now c.next_offer.new.self c.args.id c.args.capacity
    c.next_offer.result c.next_offer.ensures.goes
    subscription c.args.lane.now x at f c.in-Some.notice (sym c.in-Some.is)
    (sym c.is_full.ensures ∙ c.if-is_full.true)

pub returns-clause-offers : goal.returns-clause-offers
returns-clause-offers g c = λ subscription x at f.
    offer_one c.args.journal.now c.next_offer.new.self c.args.id c.args.capacity c.next_offer.result
    c.next_offer.ensures.goes
    subscription c.args.lane.now x at f c.in-Some.notice c.advance_cursor.new.self
    c.put.new.self (sym c.in-Some.is)
    (sym c.is_full.ensures ∙ c.if-is_full.false) c.in_ok-put.ensures.ok c.advance_cursor.ensures
