use Rattle.feed_core.specs.laws.WholeSessionsLaw.{skips_within}
use Rattle.feed_core.proofs.laws.skips_are_events.Goals as goal

pub returns : goal.returns
returns c = skips_within
