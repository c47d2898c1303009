use Rattle.feed_core.specs.laws.HeadlineLaw.{headline}
use Rattle.feed_core.proofs.laws.headline.Goals as goal

pub returns : goal.returns
returns c = headline
