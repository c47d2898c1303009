use Rattle.std.proofs.Common.{arith}
use Rattle.best_rows.proofs.Quoted.{quoted_placed}
use Rattle.best_rows.proofs.quoting.put_quoted.Goals as goal

pub returns : goal.returns
returns c =
    quoted_placed c.args.escape c.loop-byte.byte-index c.args.name.now
    c.args.text.now c.loop-byte.text
    c.put_bytes-2.new.text c.loop-byte-test.false
    (omega (arith, c.loop-byte.auto.byte-index-end, c.requires.short))
    c.loop-byte.invariant.put c.loop-byte.invariant.short
    c.loop-byte.invariant.size c.put_bytes-2.ensures
