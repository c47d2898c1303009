use Rattle.replay_run.proofs.Runs.{replay_run}
use Rattle.replay_run.proofs.a_replay_is_a_run.Goals as goal

pub returns : goal.returns
returns c = replay_run
