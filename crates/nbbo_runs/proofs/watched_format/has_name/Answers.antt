use Rattle.nbbo_runs.proofs.SessionCounts.{same_name}
use Rattle.nbbo_runs.proofs.watched_format.has_name.Goals as goal

pub returns : goal.returns
returns c =
    same_name c.args.first.now c.args.name.now c.is_same_name.result c.is_same_name.ensures
