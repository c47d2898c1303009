use Rattle.feed_text.proofs.EveryTelling.{every_telling}
use Rattle.feed_text.proofs.laws.every_capture_tells.Goals as goal

pub returns : goal.returns
returns c = every_telling
