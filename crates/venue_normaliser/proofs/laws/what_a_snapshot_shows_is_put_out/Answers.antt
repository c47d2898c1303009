use Rattle.venue_normaliser.proofs.Opened.{shown_first}
use Rattle.venue_normaliser.proofs.laws.what_a_snapshot_shows_is_put_out.Goals as goal

pub returns : goal.returns
returns c = shown_first
