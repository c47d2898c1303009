use Rattle.feed_core.proofs.ItemOrder.{refused_never}
use Rattle.feed_core.proofs.laws.no_refused_skip_stands.Goals as goal

pub returns : goal.returns
returns c = refused_never
