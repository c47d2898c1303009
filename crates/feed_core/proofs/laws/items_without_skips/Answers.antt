use Rattle.feed_core.specs.laws.WholeSessionsLaw.{session_whole, sessions_whole, sent_counted}
use Rattle.feed_core.proofs.laws.items_without_skips.Goals as goal

pub returns-clause-session : goal.returns-clause-session
returns-clause-session c = session_whole

pub returns-clause-sessions : goal.returns-clause-sessions
returns-clause-sessions c = sessions_whole

pub returns-clause-sent : goal.returns-clause-sent
returns-clause-sent c = sent_counted
