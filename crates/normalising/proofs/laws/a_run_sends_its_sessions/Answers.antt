use Rattle.normalising.proofs.Sendings.{run_sends}
use Rattle.normalising.proofs.laws.a_run_sends_its_sessions.Goals as goal

pub returns : goal.returns
returns c = λ feed records taken left text first after new n.
    run_sends feed records taken left text first after new n
