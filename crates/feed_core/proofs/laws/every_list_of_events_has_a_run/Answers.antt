use Rattle.feed_core.proofs.EveryRun.{every_run}
use Rattle.feed_core.proofs.laws.every_list_of_events_has_a_run.Goals as goal

pub returns : goal.returns
returns c = every_run
