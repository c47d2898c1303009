use Rattle.venue_normaliser.proofs.OfMessages.{gives_items}
use Rattle.venue_normaliser.proofs.laws.what_is_put_out_is_the_session.Goals as goal

pub returns : goal.returns
returns c = gives_items
