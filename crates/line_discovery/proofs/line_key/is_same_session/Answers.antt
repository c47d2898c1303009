use Rattle.line_discovery.proofs.SameKeys.{tested_session}
use Rattle.line_discovery.proofs.line_key.is_same_session.Goals as goal

pub returns : goal.returns
returns c =
    tested_session c.are_equal_sessions.result c.args.one.now c.args.other.now
    c.are_equal_sessions.ensures.0 c.are_equal_sessions.ensures.1
