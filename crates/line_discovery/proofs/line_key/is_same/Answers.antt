use Rattle.line_discovery.proofs.SameKeys.{tested_key}
use Rattle.line_discovery.proofs.line_key.is_same.Goals as goal

pub returns : goal.returns
returns c =
    tested_key c.are_equal.result c.args.one.now c.args.other.now c.are_equal.ensures.0
    c.are_equal.ensures.1
