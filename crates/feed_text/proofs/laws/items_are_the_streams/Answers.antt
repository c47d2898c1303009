use Rattle.feed_text.specs.laws.VenueItemsLaw.{taken_are_streams}
use Rattle.feed_text.proofs.laws.items_are_the_streams.Goals as goal

pub returns : goal.returns
returns c = taken_are_streams
