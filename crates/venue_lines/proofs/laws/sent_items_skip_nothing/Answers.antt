use Rattle.venue_lines.proofs.WithoutSkips.{sent_skips_nothing}
use Rattle.venue_lines.proofs.laws.sent_items_skip_nothing.Goals as goal

pub returns : goal.returns
returns c = sent_skips_nothing
