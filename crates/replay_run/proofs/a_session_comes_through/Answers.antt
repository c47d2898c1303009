use Rattle.replay_run.proofs.Coming.{comes_through}
use Rattle.replay_run.proofs.a_session_comes_through.Goals as goal

pub returns : goal.returns
returns c = comes_through
