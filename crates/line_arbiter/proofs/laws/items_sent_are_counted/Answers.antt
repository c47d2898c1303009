use Rattle.line_arbiter.specs.laws.Placing.{place_next, place_same, place_skip, place_within, sent_back}
use Rattle.line_arbiter.proofs.laws.items_sent_are_counted.Goals as goal

pub returns-clause-packet : goal.returns-clause-packet
returns-clause-packet c = place_same

pub returns-clause-item : goal.returns-clause-item
returns-clause-item c = λ s packets fits. place_next fits

pub returns-clause-within : goal.returns-clause-within
returns-clause-within c = λ s packets fits. place_within fits

pub returns-clause-skip : goal.returns-clause-skip
returns-clause-skip c = place_skip

pub returns-clause-back : goal.returns-clause-back
returns-clause-back c = λ s packets fits. sent_back fits
