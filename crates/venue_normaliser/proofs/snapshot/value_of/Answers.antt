use Rattle.std.proofs.Common.{◌+◌, get_or, refl, arith}
use Rattle.venue_normaliser.proofs.Numbers.{value_more, value_part}
use Rattle.venue_normaliser.proofs.snapshot.value_of.Goals as goal

pub returns-then-value-gt-GREATEST_NUMBER-clause-greater :
    goal.returns-then-value-gt-GREATEST_NUMBER-clause-greater
returns-then-value-gt-GREATEST_NUMBER-clause-greater c =
    let ds = c.args.digits.now in
    let i = c.loop-digit.digit-index in
    let more = value_more ds i (get_or ds i 0) c.loop-digit-test.true refl in
    let part = value_part ds (i + 1) in
    let is = c.loop-digit.invariant.is in
    let less = c.saturating_sub.ensures in
    let same = c.from.ensures in
    let great = c.if-value-gt-GREATEST_NUMBER.true in omega arith
